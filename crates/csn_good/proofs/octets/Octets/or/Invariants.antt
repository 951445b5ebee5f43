use Rattle.std.proofs.Common.{◌<◌, ◌⊎◌, IsTrue}
use Rattle.csn_good.specs.Octets.{has_octet, OctetsAre}
use Rattle.csn_good.proofs.octets.Octets.or.Given as goal

abbrev pub invariant-loop-octet : goal.invariant-loop-octet
invariant-loop-octet l =
    OctetsAre l.both.has (λ o. IsTrue (has_octet l.fn.self.has o) ⊎ (IsTrue (has_octet l.other.has o) × (o < l.octet)))
