use Rattle.csn_good.specs.ClaimedSets.{claims_of}
use Rattle.csn_good.specs.Octets.{OctetsAre, OfSome}
use Rattle.csn_good.proofs.EndsTold.{EndsBefore}
use Rattle.csn_good.proofs.ending.ends_of_some.Given as goal

abbrev pub invariant-loop-at : goal.invariant-loop-at
invariant-loop-at l = OctetsAre l.ends.has (λ p. OfSome l.from.has (λ o. EndsBefore (claims_of l.c) l.parts l.at o p))
