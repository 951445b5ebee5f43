use Rattle.std.proofs.Common.{◌≡◌, ◌<◌, ℕ, IsTrue, Some, slice_get}
use Rattle.csn_good.specs.ClaimedSets.{claims_of}
use Rattle.csn_good.proofs.sets.some_nullable.Given as goal

abbrev pub invariant-loop-at : goal.invariant-loop-at
invariant-loop-at l = (k i : ℕ) → k < l.at → slice_get l.parts k ≡ Some i → IsTrue ((claims_of l.c).nullable i) → ⊥
