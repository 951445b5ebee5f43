use Rattle.std.proofs.Common.{◌<◌, ℕ, IsTrue}
use Rattle.csn_good.specs.ClaimedSets.{claims_of}
use Rattle.csn_good.specs.Octets.{has_octet, OfSome}
use Rattle.csn_good.proofs.octets.one_more.Given as goal

abbrev pub invariant-loop-end : goal.invariant-loop-end
invariant-loop-end l =
    (e : ℕ) → e < l.end → OfSome l.from.has (λ o. IsTrue ((claims_of l.c).ends l.i o e)) → IsTrue (has_octet l.from.has e)
