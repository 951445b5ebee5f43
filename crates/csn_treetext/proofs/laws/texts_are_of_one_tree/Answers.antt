use Rattle.csn_treetext.specs.declared.version.Version.TheVariants.{First, Second}
use Rattle.csn_treetext.proofs.Complete.{one_tree}
use Rattle.csn_treetext.proofs.laws.texts_are_of_one_tree.Goals as goal

pub returns-clause-today : goal.returns-clause-today
returns-clause-today c = one_tree Second

pub returns-clause-before : goal.returns-clause-before
returns-clause-before c = one_tree First
