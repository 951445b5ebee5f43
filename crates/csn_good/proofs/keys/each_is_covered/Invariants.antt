use Rattle.std.proofs.Common.{◌≡◌, ◌<◌, ℕ, Some, slice_get}
use Rattle.csn_good.specs.Covering.{PartIsCovered}
use Rattle.csn_good.proofs.keys.each_is_covered.Given as goal

abbrev pub invariant-loop-at : goal.invariant-loop-at
invariant-loop-at l = (place part : ℕ) → place < l.at → slice_get l.parts place ≡ Some part → PartIsCovered l.c l.i part
