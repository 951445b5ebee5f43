use Rattle.std.proofs.Common.{◌≡◌, ◌<◌, ℕ, Some, slice_get}
use Rattle.csn_good.specs.Apart.{AreApart}
use Rattle.csn_good.proofs.apart.alternative_is_apart.Given as goal

abbrev pub invariant-loop-later : goal.invariant-loop-later
invariant-loop-later l =
    (k other : ℕ) → l.place < k → k < l.later → slice_get l.parts k ≡ Some other
    → AreApart l.desc l.c l.i l.alternative other
