-- Counts of faults that stand still.
use Rattle.std.proofs.Common.{◌≡◌, ℕ, inl, inr, arith}
use Rattle.csn_io.specs.Faults.{Rose}

-- a count that stands at 0 did not rise
pub no_rise : (before after : ℕ) → after ≡ before → before ≡ 0 → Rose before after → ⊥
no_rise before after still zero rose = elim rose [ inl up ↦ absurd (omega arith) | inr full ↦ absurd (omega arith) ]
