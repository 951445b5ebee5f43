use Rattle.std.proofs.Common.{◌<◌, ◌≤◌, ℕ, IsTrue, Some}
use Rattle.csn_good.specs.ClaimedSets.{claims_of}
use Rattle.csn_good.proofs.apart.something_follows.Given as goal

abbrev pub invariant-loop-octet : goal.invariant-loop-octet
invariant-loop-octet l = (o from b : ℕ) → o < l.octet → from ≤ 7 → b ≤ 1 → IsTrue ((claims_of l.c).ends l.i from o)
    → IsTrue ((claims_of l.c).follow l.i o (Some b)) → ⊥
