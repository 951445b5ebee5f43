use Rattle.csn_movetext.proofs.TreesFit.{tree_fits}
use Rattle.csn_movetext.proofs.TreeParts.{node_parts}
use Rattle.csn_movetext.proofs.BlockFacts.{shown}
use Rattle.csn_movetext.proofs.laws.trees_have_texts.Goals as goal

pub returns-clause-fits : goal.returns-clause-fits
returns-clause-fits c = λ d b t is h. tree_fits d is b t h

pub returns-clause-texts : goal.returns-clause-texts
returns-clause-texts c = λ form d b t is labels few h. shown form t (tree_fits d is b t h) (node_parts d labels c.meanings_are_bits.ensures.meant h few)
