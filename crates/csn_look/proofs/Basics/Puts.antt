-- Lists in which something was put, and parted at a place.
use Rattle.std.proofs.Common.{◌≡◌, ◌≢◌, ℕ, zero, suc, ◌<◌, ◌≤◌, List, [], ◌∷◌, ◌++◌, length, take, drop, refl, sym}
use Rattle.std.proofs.Common.{ap, ◌∙◌, subst, arith, inl, inr, Some, get_or, get_or-set_same, get_or-set_other}
use Rattle.std.specs.Prelude.{slice_get}
use Rattle.std.proofs.Math.ListN.{set as put, length-set}
use Rattle.std.proofs.lemmas.Bool.{cases_order}
use Rattle.std.proofs.lemmas.Option.{slice_get-get_or, slice_get_past, slice_get_read}

pub get_put_same : {A : Type 0} (xs : List A) (i : ℕ) (a : A) → i < length xs → slice_get (put xs i a) i ≡ Some a
get_put_same {A} xs i a inside =
    slice_get-get_or (put xs i a) i a (omega (arith, length-set {A = A})) ∙ ap (λ s. Some s) (get_or-set_same xs i a a inside)

pub get_put_other : {A : Type 0} (xs : List A) (i j : ℕ) (a : A) → j ≢ i → slice_get (put xs i a) j ≡ slice_get xs j
get_put_other {A} xs i j a differ =
    elim (cases_order j (length xs)) [
      | inl same ↦ past (omega (arith, same))
      | inr order ↦ elim order [
        | inl inside ↦
            slice_get-get_or (put xs i a) j a (omega (arith, inside, length-set xs i a))
            ∙ ap (λ s. Some s) (get_or-set_other xs i j a a differ)
            ∙ sym (slice_get-get_or xs j a inside)
        | inr behind ↦ past (omega (arith, behind))
      ]
    ]
  where
    past : length xs ≤ j → slice_get (put xs i a) j ≡ slice_get xs j
    past long = slice_get_past (put xs i a) j (omega (arith, long, length-set xs i a)) ∙ sym (slice_get_past xs j long)

pub middle_get : (before after : List ℕ) (p : ℕ) → slice_get (before ++ p ∷ after) (length before) ≡ Some p
middle_get [] after p = refl
middle_get (x ∷ before) after p = middle_get before after p

pub middle_take : (before after : List ℕ) (p : ℕ) → take (length before) (before ++ p ∷ after) ≡ before
middle_take [] after p = refl
middle_take (x ∷ before) after p = ap (λ l. x ∷ l) (middle_take before after p)

pub record Split (parts : List ℕ) (j p : ℕ) : Type 0 where
  pub after : List ℕ
  pub is : parts ≡ take j parts ++ p ∷ after

pub split_at : (parts : List ℕ) (j p : ℕ) → slice_get parts j ≡ Some p → Split parts j p
split_at [] j p at = cc
split_at (x ∷ parts) zero p at = let same : x ≡ p = cc in record { after = parts; is = ap (λ y. y ∷ parts) same }
split_at (x ∷ parts) (suc j) p at = let s = split_at parts j p at in record { after = s.after; is = ap (λ l. x ∷ l) s.is }

pub take_more : (parts : List ℕ) (j p : ℕ) → slice_get parts j ≡ Some p → take (suc j) parts ≡ take j parts ++ p ∷ []
take_more [] j p at = cc
take_more (x ∷ parts) zero p at = let same : x ≡ p = cc in ap (λ y. y ∷ []) same
take_more (x ∷ parts) (suc j) p at = ap (λ l. x ∷ l) (take_more parts j p at)

pub middle_drop : (before after : List ℕ) (p : ℕ) → drop (suc (length before)) (before ++ p ∷ after) ≡ after
middle_drop [] after p = refl
middle_drop (x ∷ before) after p = middle_drop before after p

pub split_drop : (parts : List ℕ) (j p : ℕ) → slice_get parts j ≡ Some p → parts ≡ take j parts ++ p ∷ drop (suc j) parts
split_drop [] j p at = cc
split_drop (x ∷ parts) zero p at = let same : x ≡ p = cc in ap (λ y. y ∷ parts) same
split_drop (x ∷ parts) (suc j) p at = ap (λ l. x ∷ l) (split_drop parts j p at)

-- what is read of a list that is another one
pub read_through : {A : Type 0} (items table : List A) (at : ℕ) (found : A) → items ≡ table → at < length table
    → found ≡ get_or items at found → slice_get table at ≡ Some found
read_through items table at found same inside is =
    let within : at < length items = omega (arith, ap length same, inside) in
    subst (λ l. slice_get l at ≡ Some found) same (slice_get_read items (length items) at found refl within is)
