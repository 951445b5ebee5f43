use Rattle.std.proofs.Common.{◌<◌, ℕ, IsTrue}
use Rattle.csn_good.specs.ClaimedSets.{claims_of}
use Rattle.csn_good.proofs.claims.may_end.Given as goal

abbrev pub invariant-loop-octet : goal.invariant-loop-octet
invariant-loop-octet l = (k : ℕ) → k < l.octet → IsTrue ((claims_of l.c).ends l.i k l.end) → ⊥
