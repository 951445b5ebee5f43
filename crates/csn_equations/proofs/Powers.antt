-- Powers of 2, and 8.
use Rattle.std.proofs.Common.{ℕ, zero, suc, ◌*◌, ◌%◌, ◌^◌, ◌<◌, ◌≤◌, arith}
use Rattle.std.proofs.Math.Pow.{pow_mono}

pub low_power : (w : ℕ) → w < 3 → 1 * 2 ^ w % 256 ≤ 8
low_power zero h = omega arith
low_power (suc zero) h = omega arith
low_power (suc (suc zero)) h = omega arith
low_power (suc (suc (suc w))) h = absurd (omega arith)

pub high_power : (w : ℕ) → 3 ≤ w → 8 ≤ 2 ^ w
high_power w h = let p : 2 ^ 3 ≤ 2 ^ w = pow_mono h in omega arith
