-- Items and alternatives one by one: each is smaller than the list, and what is left begins with it.
use Rattle.std.proofs.Common.{◌≡◌, ℕ, zero, suc, ◌+◌, ◌≤◌, ◌<◌, List, [], ◌∷◌, ◌++◌, length, take, drop, slice_get, Some, refl, ◌∙◌, ap, arith}
use Rattle.std.proofs.lemmas.List.{drop_more}
use Rattle.std.proofs.lemmas.Option.{slice_get_within, get_or_from_slice_get}
use Rattle.csn_grammar.specs.ExprV.{ExprV, BranchV}
use Rattle.csn_grammar.specs.ExprCode.{expr_size, list_size, branch_list_size}

pub item_size : (xs : List ExprV) (at : ℕ) (x : ExprV) → slice_get xs at ≡ Some x → expr_size x + 1 ≤ list_size xs
item_size [] at x h = absurd (cc)
item_size (y ∷ xs) zero x h =
    let same : y ≡ x = cc in let sizes : expr_size y ≡ expr_size x = ap expr_size same in omega arith
item_size (y ∷ xs) (suc at) x h = let inner : expr_size x + 1 ≤ list_size xs = item_size xs at x h in omega arith

pub branch_size_of :
    (bs : List BranchV) (at : ℕ) (b : BranchV)
    → slice_get bs at ≡ Some b → expr_size b.body + 2 ≤ branch_list_size bs
branch_size_of [] at b h = absurd (cc)
branch_size_of (c ∷ bs) zero b h =
    let same : c ≡ b = cc in let sizes : expr_size c.body ≡ expr_size b.body = ap (λ z. expr_size z.body) same in omega arith
branch_size_of (c ∷ bs) (suc at) b h =
    let inner : expr_size b.body + 2 ≤ branch_list_size bs = branch_size_of bs at b h in omega arith

pub drop_at : {A : Type 0} (xs : List A) (at : ℕ) (x : A) → slice_get xs at ≡ Some x → drop at xs ≡ x ∷ drop (at + 1) xs
drop_at xs at x h =
    drop_more xs at x (slice_get_within xs at x h) ∙ ap (λ y. y ∷ drop (at + 1) xs) (get_or_from_slice_get xs at x x h)

take-suc_at : {A : Type 0} (xs : List A) (at : ℕ) (x : A) → slice_get xs at ≡ Some x → take (suc at) xs ≡ take at xs ++ x ∷ []
take-suc_at [] at x h = absurd (cc)
take-suc_at (y ∷ xs) zero x h = let same : y ≡ x = cc in ap (λ z. z ∷ []) same
take-suc_at (y ∷ xs) (suc at) x h = ap (λ l. y ∷ l) (take-suc_at xs at x h)

pub take_next : {A : Type 0} (xs : List A) (at : ℕ) (x : A) → slice_get xs at ≡ Some x → take (at + 1) xs ≡ take at xs ++ x ∷ []
take_next xs at x h =
    let more : at + 1 ≡ suc at = omega arith in ap (λ k. take k xs) more ∙ take-suc_at xs at x h

-- one of the first few is one of all
pub take_get : {A : Type 0} (xs : List A) (count at : ℕ) (x : A) → at < count → slice_get xs at ≡ Some x → slice_get (take count xs) at ≡ Some x
take_get xs zero at x few h = absurd (omega (arith, few))
take_get [] (suc count) at x few h = absurd (cc)
take_get (y ∷ xs) (suc count) zero x few h = h
take_get (y ∷ xs) (suc count) (suc at) x few h = take_get xs count at x (omega (arith, few)) h

-- the first few are no more
pub take_short : {A : Type 0} (n : ℕ) (xs : List A) → length (take n xs) ≤ n
take_short zero [] = omega arith
take_short zero (x ∷ xs) = omega arith
take_short (suc n) [] = omega arith
take_short (suc n) (x ∷ xs) = let less = take_short n xs in omega (arith, less)

-- a number below the length has an element
pub get_within : {A : Type 0} (xs : List A) (k : ℕ) → k < length xs → (x : A) × (slice_get xs k ≡ Some x)
get_within [] k few = absurd (omega (arith, few))
get_within (x ∷ xs) zero few = (x, refl)
get_within (x ∷ xs) (suc k) few = get_within xs k (omega (arith, few))
