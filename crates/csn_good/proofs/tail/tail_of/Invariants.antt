use Rattle.std.proofs.Common.{drop}
use Rattle.csn_good.specs.ClaimedSets.{claims_of}
use Rattle.csn_good.specs.Tails.{TailIs}
use Rattle.csn_good.proofs.tail.tail_of.Given as goal

abbrev pub invariant-loop-at : goal.invariant-loop-at
invariant-loop-at l = TailIs (claims_of l.c) l.tail (drop l.at l.parts)
