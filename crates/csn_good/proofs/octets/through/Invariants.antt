use Rattle.std.proofs.Common.{◌<◌, IsTrue}
use Rattle.csn_good.specs.ClaimedSets.{claims_of}
use Rattle.csn_good.specs.Octets.{OctetsAre, OfSome}
use Rattle.csn_good.proofs.octets.through.Given as goal

abbrev pub invariant-loop-end : goal.invariant-loop-end
invariant-loop-end l =
    OctetsAre l.ends.has (λ e. OfSome l.from.has (λ o. IsTrue ((claims_of l.c).ends l.i o e)) × (e < l.end))
