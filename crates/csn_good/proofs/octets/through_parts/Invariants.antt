use Rattle.csn_good.specs.ClaimedSets.{claims_of}
use Rattle.csn_good.proofs.EndsTold.{InParts}
use Rattle.csn_good.proofs.octets.through_parts.Given as goal

abbrev pub invariant-loop-at : goal.invariant-loop-at
invariant-loop-at l = InParts (claims_of l.c) l.parts l.at l.fn.from.has l.here.has
