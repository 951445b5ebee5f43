-- What single words spell.
use Rattle.std.proofs.Common.{ℕ, List, ◌++◌, Option, Some, None, ◌<◌, ◌≤◌, ◌^◌, arith}
use Rattle.std.proofs.Math.Nat.{pow-le-pow_right}
use Rattle.csn_desc.specs.declared.symbol.Symbol.{Symbol}

-- a run behind symbols that are read
abbrev pub with_run : List Symbol → Option (List Symbol) → Option (List Symbol)
with_run front None = None
with_run front (Some run) = Some (front ++ run)

-- a number of at most eight digits
pub few_digits : (n i : ℕ) → n < 10 ^ i → i ≤ 8 → n < 100000000
few_digits n i below few = let most : 10 ^ i ≤ 10 ^ 8 = pow-le-pow_right (omega arith) few in omega arith
