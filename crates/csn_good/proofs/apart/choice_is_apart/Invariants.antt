use Rattle.std.proofs.Common.{◌≡◌, ◌<◌, ℕ, Some, slice_get}
use Rattle.csn_good.specs.Apart.{IsApart}
use Rattle.csn_good.proofs.apart.choice_is_apart.Given as goal

abbrev pub invariant-loop-place : goal.invariant-loop-place
invariant-loop-place l =
    (place part : ℕ) → place < l.place → slice_get l.parts place ≡ Some part
    → IsApart l.desc l.c l.i l.parts place part
