use Rattle.csn_sample.proofs.TreesInside.{told_below}
use Rattle.csn_sample.proofs.way_numbers.way_gone.Goals as goal

pub returns : goal.returns
returns c = told_below c.args.node.now c.args.tree.now _ _ _ c.number_gone.ensures c.ways.ensures c.below.ensures
