use Rattle.std.proofs.Common.{◌<◌, IsTrue}
use Rattle.csn_good.specs.ClaimedSets.{claims_of}
use Rattle.csn_good.specs.Octets.{OctetsAre}
use Rattle.csn_good.proofs.octets.begins_of.Given as goal

abbrev pub invariant-loop-octet : goal.invariant-loop-octet
invariant-loop-octet l = OctetsAre l.begins.has (λ o. IsTrue ((claims_of l.c).reached l.i o) × (o < l.octet))
