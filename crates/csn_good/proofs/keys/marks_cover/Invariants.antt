use Rattle.std.proofs.Common.{◌≡◌, ◌<◌, ◌⊎◌, ℕ, Some, slice_get}
use Rattle.csn_cert.specs.declared.pattern.Mark.{Mark}
use Rattle.csn_cert.specs.declared.pattern.Mark.TheVariants.{Any}
use Rattle.csn_good.proofs.keys.marks_cover.Given as goal

abbrev pub invariant-loop-at : goal.invariant-loop-at
invariant-loop-at l =
    (k : ℕ) (a b : Mark) → k < l.at → slice_get l.wide.marks k ≡ Some a → slice_get l.pattern.marks k ≡ Some b
    → (a ≡ Any) ⊎ (a ≡ b)
