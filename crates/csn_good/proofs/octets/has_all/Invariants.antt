use Rattle.std.proofs.Common.{◌<◌, ℕ, IsTrue}
use Rattle.csn_good.specs.ClaimedSets.{claims_of}
use Rattle.csn_good.specs.Octets.{has_octet}
use Rattle.csn_good.proofs.octets.has_all.Given as goal

abbrev pub invariant-loop-octet : goal.invariant-loop-octet
invariant-loop-octet l =
    (o : ℕ) → o < l.octet → IsTrue (has_octet l.octets.has o) → IsTrue ((claims_of l.c).reached l.i o)
