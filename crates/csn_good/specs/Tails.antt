-- What the private functions know of the last parts of a sequence or truncation. No public contract cites these words.
use Rattle.std.specs.Prelude.{ℕ, zero, suc, ◌≤◌, ◌↔◌, Bool, List, IsTrue}
use Rattle.csn_claims.specs.Claims.{Claims}
use Rattle.csn_claims.specs.Nullable.{AllNullable}
use Rattle.csn_claims.specs.Starts.{PartsStart}
use Rattle.csn_good.specs.declared.tail.Tail.{Tail}
use Rattle.csn_good.specs.Octets.{has_octet}

-- they may begin with the bit at the octet position
abbrev pub tail_has : Tail → ℕ → ℕ → Bool
tail_has tail octet zero = has_octet tail.zero.has octet
tail_has tail octet (suc bit) = has_octet tail.one.has octet

-- what is kept tells of these parts whether they may have no bits, and with which bits they may begin
pub record TailIs (claims : Claims) (tail : Tail) (parts : List ℕ) : Type 0 where
  pub nullable : IsTrue tail.nullable ↔ AllNullable claims parts
  pub starts : (o bit : ℕ) → o ≤ 7 → bit ≤ 1 → IsTrue (tail_has tail o bit) ↔ PartsStart claims parts o bit

-- part i, or they where it has no bits, may begin with the bit
pub data StartsBehind (claims : Claims) (tail : Tail) (i o bit : ℕ) : Type 0 where
  behind_own : IsTrue (claims.starts i o bit) → StartsBehind claims tail i o bit
  behind_later :
      IsTrue (claims.nullable i) → (end : ℕ) → end ≤ 7 → IsTrue (claims.ends i o end) → IsTrue (tail_has tail end bit)
      → StartsBehind claims tail i o bit
