-- Room for octets: the first place is for the one that was held back, and those that were decoded stand behind it.
use Rattle.std.proofs.Common.{◌≡◌, ℕ, suc, zero, ◌-◌, ◌≤◌, List, [], ◌∷◌, ◌++◌, length, take, drop, get_or, Some, refl, sym, ap, ◌∙◌, arith}
use Rattle.std.proofs.lemmas.List.{length-take-le, take-append-le, take-take}
use borrow.Rule.Slice.PartMut.{put_mid}
use Rattle.csn_bits.specs.Line.{last_of}
use Rattle.csn_bits.specs.Feed.{all_but_last}

-- decoded behind the first place
pub put_behind : (k : ℕ) (room decoded : List ℕ) → 1 ≤ length room
    → (first : ℕ) × (rest : List ℕ) × (put_mid 1 k room decoded ≡ first ∷ (decoded ++ rest))
put_behind k [] decoded some = absurd (omega arith)
put_behind k (first ∷ room) decoded some = (first, drop k room, refl)

-- the last of so many
pub last_at : (decoded rest : List ℕ) (first count : ℕ) → 1 ≤ count → count ≤ length decoded
    → last_of (take count decoded) ≡ Some (get_or (first ∷ (decoded ++ rest)) count 0)
last_at [] rest first count some within = absurd (omega arith)
last_at (d ∷ decoded) rest first zero some within = absurd (omega arith)
last_at (d ∷ decoded) rest first (suc zero) some within = refl
last_at (d ∷ []) rest first (suc (suc k)) some within = absurd (omega arith)
last_at (d ∷ e ∷ decoded) rest first (suc (suc k)) some within = last_at (e ∷ decoded) rest d (suc k) (omega arith) (omega arith)

-- so many from the first place on
pub from_first : (decoded rest : List ℕ) (first count : ℕ) → 1 ≤ count → count ≤ length decoded
    → take count (first ∷ (decoded ++ rest)) ≡ first ∷ all_but_last (take count decoded)
from_first decoded rest first zero some within = absurd (omega arith)
from_first decoded rest first (suc n) some within =
    let fewer : length (take (suc n) decoded) - 1 ≡ n = omega (arith, length-take-le (suc n) decoded within) in
    let same : take n (decoded ++ rest) ≡ all_but_last (take (suc n) decoded) =
    take-append-le n decoded rest (omega arith) ∙ sym (ap (λ (m : ℕ). take m (take (suc n) decoded)) fewer ∙ take-take n (suc n) decoded (omega arith)) in
    ap (λ (l : List ℕ). first ∷ l) same
