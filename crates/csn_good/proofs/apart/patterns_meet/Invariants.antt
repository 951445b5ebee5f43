use Rattle.std.proofs.Common.{◌≡◌, ◌<◌, ℕ, Some, slice_get}
use Rattle.csn_cert.specs.declared.pattern.Mark.{Mark}
use Rattle.csn_good.specs.Apart.{MarksMeet}
use Rattle.csn_good.proofs.apart.patterns_meet.Given as goal

abbrev pub invariant-loop-at : goal.invariant-loop-at
invariant-loop-at l = (k : ℕ) (a b : Mark) → k < l.at → slice_get l.left.marks k ≡ Some a → slice_get l.right.marks k ≡ Some b → MarksMeet a b
