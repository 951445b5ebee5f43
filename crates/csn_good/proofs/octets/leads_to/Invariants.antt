use Rattle.std.proofs.Common.{◌<◌, ℕ, IsTrue}
use Rattle.csn_good.specs.ClaimedSets.{claims_of}
use Rattle.csn_good.specs.Octets.{has_octet}
use Rattle.csn_good.proofs.octets.leads_to.Given as goal

abbrev pub invariant-loop-octet : goal.invariant-loop-octet
invariant-loop-octet l =
    (k : ℕ) → k < l.octet → IsTrue (has_octet l.from.has k) → IsTrue ((claims_of l.c).ends l.i k l.end) → ⊥
