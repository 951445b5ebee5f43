-- The first of a list that passes a test.
use Rattle.std.proofs.Common.{◌≡◌, ℕ, zero, suc, Bool, true, false, List, [], ◌∷◌, take, find, slice_get, Some, None}
use Rattle.std.proofs.Common.{refl, ap, ◌∙◌, ◌+◌, ◌<◌, arith, subst, length, get_or}
use Rattle.std.proofs.lemmas.Option.{slice_get_read}

find_none_suc : {A : Type 0} (test : A → Bool) (xs : List A) (k : ℕ) (x : A)
    → slice_get xs k ≡ Some x → test x ≡ false → find test (take k xs) ≡ None → find test (take (suc k) xs) ≡ None
find_none_suc test [] k x is fails none = absurd (cc)
find_none_suc test (y ∷ rest) zero x is fails none = let same : test y ≡ false = (let e : y ≡ x = cc in ap test e ∙ fails) in rw same refl
find_none_suc test (y ∷ rest) (suc k) x is fails none = by_test (find_none_suc test rest k x is fails) (test y) refl
  where
    by_test : (find test (take k rest) ≡ None → find test (take (suc k) rest) ≡ None) → (b : Bool)
        → test y ≡ b → find test (take (suc (suc k)) (y ∷ rest)) ≡ None
    by_test later true e = (let z = rw e at none in absurd (cc))
    by_test later false e = rw e (later (let z = rw e at none in z))

pub find_first : {A : Type 0} (test : A → Bool) (xs : List A) (k : ℕ) (x : A)
    → slice_get xs k ≡ Some x → test x ≡ true → find test (take k xs) ≡ None → find test xs ≡ Some x
find_first test [] k x is holds none = absurd (cc)
find_first test (y ∷ rest) zero x is holds none = let e : y ≡ x = cc in let same : test y ≡ true = ap test e ∙ holds in rw same (ap Some e)
find_first test (y ∷ rest) (suc k) x is holds none = by_test (find_first test rest k x is holds) (test y) refl
  where
    by_test : (find test (take k rest) ≡ None → find test rest ≡ Some x) → (b : Bool) → test y ≡ b → find test (y ∷ rest) ≡ Some x
    by_test later true e = (let z = rw e at none in absurd (cc))
    by_test later false e = rw e (later (let z = rw e at none in z))

pub find_none_next : {A : Type 0} (test : A → Bool) (xs : List A) (k : ℕ) (x : A)
    → slice_get xs k ≡ Some x → test x ≡ false → find test (take k xs) ≡ None → find test (take (k + 1) xs) ≡ None
find_none_next test xs k x is fails none = let count : k + 1 ≡ suc k = omega arith in rw count (find_none_suc test xs k x is fails none)

-- what a loop reads of a list is there in the same list by another name
pub read_item : {A : Type 0} (xs ys : List A) (k : ℕ) (x : A) → xs ≡ ys → k < length xs → x ≡ get_or xs k x → slice_get ys k ≡ Some x
read_item {A} xs ys k x same low is = let P : List A → Type 0 = λ l. slice_get l k ≡ Some x in subst P same (slice_get_read xs (length xs) k x refl low is)
