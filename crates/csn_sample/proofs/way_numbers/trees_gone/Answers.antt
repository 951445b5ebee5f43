use Rattle.csn_sample.proofs.TreesInside.{trees_are}
use Rattle.csn_sample.proofs.way_numbers.trees_gone.Goals as goal

pub returns-in-Some : goal.returns-in-Some
returns-in-Some c = trees_are c.args.tree.now c.in-Some.rows.now _ c.in-Some.ensures c.len.ensures.len
