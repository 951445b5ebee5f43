use Rattle.csn_desc.proofs.Placed.{node_placed}
use Rattle.csn_desc.proofs.laws.nodes_are_well_formed.Goals as goal

pub returns : goal.returns
returns c = λ d i n is at. let here = node_placed d is i n at in (here.seen, here.round, here.is)
