-- How much two names have alike, byte by byte.
use Rattle.std.proofs.Common.{◌≡◌, ℕ, zero, suc, ◌<◌, ◌≤◌, ◌-◌, List, [], ◌∷◌, length, reverse, get_or, arith, refl, sym, ◌∙◌}
use Rattle.std.proofs.lemmas.Bool.Decides.{nat_tests}
use Rattle.std.proofs.lemmas.List.{get_or-reverse, length-reverse}
use Rattle.csn_reasons.specs.Alike.{common}

-- the bytes below a number are alike, and those at it are not
pub common_is : (xs ys : List ℕ) (n : ℕ) → n ≤ length xs → n ≤ length ys
    → ((k : ℕ) → k < n → get_or xs k 0 ≡ get_or ys k 0)
    → (n < length xs → n < length ys → get_or xs n 0 ≡ get_or ys n 0 → ⊥) → n ≡ common xs ys
common_is [] ys zero small few same differ = refl
common_is [] ys (suc n) small few same differ = absurd (omega (arith, small))
common_is (x ∷ xs) [] zero small few same differ = refl
common_is (x ∷ xs) [] (suc n) small few same differ = absurd (omega (arith, few))
common_is (x ∷ xs) (y ∷ ys) zero small few same differ =
    let apart : x ≡ y → ⊥ = differ (omega arith) (omega arith) in grind (arith, nat_tests)
common_is (x ∷ xs) (y ∷ ys) (suc n) small few same differ =
    let first : x ≡ y = same 0 (omega arith) in
    let rest : n ≡ common xs ys = common_is xs ys n (omega (arith, small)) (omega (arith, few))
    (λ k below. same (suc k) (omega (arith, below))) (λ a b. differ (omega (arith, a)) (omega (arith, b))) in
    grind (arith, nat_tests)

-- the same from the end on
pub common_last_is : (xs ys : List ℕ) (n : ℕ) → n ≤ length xs → n ≤ length ys
    → ((k : ℕ) → k < n → get_or xs (length xs - 1 - k) 0 ≡ get_or ys (length ys - 1 - k) 0)
    → (n < length xs → n < length ys → get_or xs (length xs - 1 - n) 0 ≡ get_or ys (length ys - 1 - n) 0 → ⊥)
    → n ≡ common (reverse xs) (reverse ys)
common_last_is xs ys n small few same differ =
    let one = length-reverse xs in
    let other = length-reverse ys in
    common_is (reverse xs) (reverse ys) n (omega (arith, one, small)) (omega (arith, other, few))
    (λ k below. get_or-reverse xs k 0 (omega (arith, below, small)) ∙ same k below ∙ sym (get_or-reverse ys k 0 (omega (arith, below, few))))
    (λ more less e. let m : n < length xs = omega (arith, one, more) in let l : n < length ys = omega (arith, other, less) in
    differ m l (sym (get_or-reverse xs n 0 m) ∙ e ∙ get_or-reverse ys n 0 l))
