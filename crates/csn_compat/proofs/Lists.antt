-- Lists that are compared place by place.
use Rattle.std.proofs.Common.{◌≡◌, ℕ, zero, suc, List, [], ◌∷◌, take, ap, Some}
use Rattle.std.specs.Prelude.{slice_get}

-- one more equal element
pub first_equal : {A : Type 0} (xs ys : List A) (k : ℕ) (x : A) → slice_get xs k ≡ Some x → slice_get ys k ≡ Some x
    → take k xs ≡ take k ys → take (suc k) xs ≡ take (suc k) ys
first_equal [] ys k x at_x at_y same = absurd (cc)
first_equal (a ∷ xs) [] k x at_x at_y same = absurd (cc)
first_equal (a ∷ xs) (b ∷ ys) zero x at_x at_y same = let equal : a ≡ b = cc in ap (λ k. k ∷ []) equal
first_equal (a ∷ xs) (b ∷ ys) (suc k) x at_x at_y same =
    let rest : take k xs ≡ take k ys = cc in
    let equal : a ≡ b = cc in
    let inner = first_equal xs ys k x at_x at_y rest in
    cc
