use Rattle.csn_desc.specs.Nodes.{DescV}
use Rattle.csn_look.specs.Told.{OctetsAre}
use Rattle.csn_look.specs.NodeSets.{IsLookOf}
use Rattle.csn_look.proofs.Handing.ReachedParts.{KeptBeside, PutSoFar, BeginsAt}
use Rattle.csn_look.proofs.reach.reach_in_order.Given as goal

abbrev pub invariant-loop-at : goal.invariant-loop-at
invariant-loop-at l =
    KeptBeside l.parts l.initial.reached l.reached
    × ((d : DescV) → IsLookOf d l.look.sets → OctetsAre l.here (BeginsAt d l.parts l.fn.from l.at)
    × PutSoFar l.parts l.at l.reached (BeginsAt d l.parts l.fn.from))
