use Rattle.csn_lines.proofs.FormsAgree.{shown_together, show_one_tree}
use Rattle.csn_lines.proofs.laws.forms_show_one_tree.Goals as goal

pub returns-clause-together : goal.returns-clause-together
returns-clause-together c = shown_together

pub returns-clause-one_tree : goal.returns-clause-one_tree
returns-clause-one_tree c = show_one_tree c.known.ensures
