-- A number below the one behind another.
use Rattle.std.proofs.Common.{◌≡◌, ℕ, ◌+◌, ◌<◌, ◌⊎◌, arith}

pub below_or : (m n : ℕ) → m < n + 1 → (m < n) ⊎ (m ≡ n)
below_or m n h = grind arith
