use Rattle.std.proofs.Common.{◌<◌, ℕ, IsTrue, Some}
use Rattle.csn_good.specs.ClaimedSets.{claims_of}
use Rattle.csn_good.proofs.apart.clashes_at.Given as goal

abbrev pub invariant-loop-bit : goal.invariant-loop-bit
invariant-loop-bit l = (b : ℕ) → b < l.bit → IsTrue ((claims_of l.c).starts l.part l.octet b) → IsTrue ((claims_of l.c).follow l.i l.octet (Some b)) → ⊥
