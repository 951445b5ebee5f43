-- Rows of patterns that are made octet position by octet position.
use Rattle.std.proofs.Common.{◌≡◌, ℕ, zero, suc, ◌+◌, ◌%◌, ◌<◌, ◌≤◌, ⊎_elim, Bool, true, List, [], ◌∷◌, ◌++◌, length}
use Rattle.std.proofs.Common.{map, flat_map, refl, sym, ap, ◌∙◌, subst, arith, length-append, slice_index_or, get_or}
use Rattle.std.proofs.Common.{slice_get, Some, take, append_assoc, append-nil}
use Rattle.std.proofs.lemmas.Bool.{and_parts, cases_lt}
use Rattle.std.proofs.lemmas.List.{get_or_append_left, get_or_push, map-append, take_more}
use Rattle.std.proofs.lemmas.Grind.{flat_map-append}
use Rattle.csn_cert.specs.PatternV.{PatternV}
use Rattle.csn_cert.specs.PatternText.{ComesBefore}
use Rattle.csn_cert.specs.CertificateV.{Rises}
use Rattle.std.specs.Cmp.Lexicographic.{pointwise}
use Rattle.csn_certmake.specs.Patterns.{joined, continued, choice_of, patterns_in, HasSame, IsRow}

-- the first few octet positions of a row
pub record RowSo (of : ℕ → List PatternV) (row : List (List PatternV)) (n : ℕ) : Type 0 where
  pub count : length row ≡ n
  pub same : (octet : ℕ) → octet < n → HasSame (patterns_in row octet) (of octet)
  pub rising : (octet : ℕ) → octet < n → Rises ComesBefore (patterns_in row octet)

pub row_none : (of : ℕ → List PatternV) → RowSo of [] 0
row_none of = record { count = refl; same = λ octet low. absurd (omega arith); rising = λ octet low. absurd (omega arith) }

pub row_all : (of : ℕ → List PatternV) (row : List (List PatternV)) (n : ℕ) → n ≡ 8 → RowSo of row n → IsRow of row
row_all of row n is so =
    record {
      eight = so.count ∙ is;
      same = λ octet low. so.same octet (omega arith);
      rising = λ octet low. so.rising octet (omega arith);
    }

-- what holds of each list and of one more
pub one_more : (Q : ℕ → List PatternV → Type 0) (row : List (List PatternV)) (patterns : List PatternV) (n : ℕ)
    → length row ≡ n → ((octet : ℕ) → octet < n → Q octet (patterns_in row octet)) → Q n patterns → (octet : ℕ)
    → octet < n + 1 → Q octet (patterns_in (row ++ patterns ∷ []) octet)
one_more Q row patterns n count each here octet low =
    ⊎_elim
    (λ (before : octet < n). subst (λ (l : List PatternV). Q octet l)
    (sym (get_or_append_left row (patterns ∷ []) [] octet (omega arith))) (each octet before))
    (λ (past : n ≤ octet).
    let at : octet ≡ n = omega arith in
    let is : patterns_in (row ++ patterns ∷ []) n ≡ patterns = get_or_push row patterns [] n count in
    subst (λ (o : ℕ). Q o (patterns_in (row ++ patterns ∷ []) o)) (sym at) (subst (λ (l : List PatternV). Q n l) (sym is) here))
    (cases_lt octet n)

pub row_more : (of : ℕ → List PatternV) (row new : List (List PatternV)) (n : ℕ) (patterns : List PatternV)
    → RowSo of row n → HasSame patterns (of n) → Rises ComesBefore patterns → new ≡ row ++ patterns ∷ []
    → RowSo of new (n + 1)
row_more of row new n patterns so same rising pushed =
    subst (λ (r : List (List PatternV)). RowSo of r (n + 1)) (sym pushed) (record {
      count = length-append row (patterns ∷ []) ∙ ap (λ k. k + 1) so.count;
      same = one_more (λ o l. HasSame l (of o)) row patterns n so.count so.same same;
      rising = one_more (λ o l. Rises ComesBefore l) row patterns n so.count so.rising rising;
    })

pub has_same : (patterns others : List PatternV) → patterns ≡ others → HasSame patterns others
has_same patterns others same = subst (λ (l : List PatternV). HasSame patterns l) same (λ p. (λ h. h, λ h. h))

-- ---- lists that are tested to be the same

list_same : {A : Type 0} (E : A → A → Bool) → ((x y : A) → E x y ≡ true → x ≡ y) → (xs ys : List A) → pointwise E xs ys ≡ true → xs ≡ ys
list_same E tells [] [] is = refl
list_same E tells [] (y ∷ ys) is = absurd (cc)
list_same E tells (x ∷ xs) [] is = absurd (cc)
list_same E tells (x ∷ xs) (y ∷ ys) is =
    let parts = and_parts (E x y) (pointwise E xs ys) is in
    ap (λ z. z ∷ xs) (tells x y parts.0) ∙ ap (λ l. y ∷ l) (list_same E tells xs ys parts.1)

pub lists_same : {A X : Type 0} (E : A → A → Bool) (f : X → List A) → ((x y : A) → E x y ≡ true → x ≡ y)
    → (xs ys : List X) → pointwise (λ v w. pointwise E (f v) (f w)) xs ys ≡ true → map f xs ≡ map f ys
lists_same E f tells [] [] is = refl
lists_same E f tells [] (y ∷ ys) is = absurd (cc)
lists_same E f tells (x ∷ xs) [] is = absurd (cc)
lists_same E f tells (x ∷ xs) (y ∷ ys) is =
    let parts = and_parts (pointwise E (f x) (f y)) (pointwise (λ v w. pointwise E (f v) (f w)) xs ys) is in
    ap (λ z. z ∷ map f xs) (list_same E tells (f x) (f y) parts.0) ∙ ap (λ l. f y ∷ l) (lists_same E f tells xs ys parts.1)

-- ---- before other patterns

pub continued_whole : (rests : List (List PatternV)) (octet : ℕ) (first : PatternV) (patterns : List PatternV)
    → first.whole ≡ true → patterns_in rests ((octet + length first.marks) % 8) ≡ patterns
    → continued rests octet first ≡ map (joined first) patterns
continued_whole rests octet first patterns whole is = rw whole (ap (map (joined first)) is)

-- one list more, of one pattern
pub row_one : (of : ℕ → List PatternV) (row new : List (List PatternV)) (n : ℕ) (patterns : List PatternV)
    (p : PatternV) → RowSo of row n → patterns ≡ p ∷ [] → of n ≡ p ∷ [] → new ≡ row ++ patterns ∷ []
    → RowSo of new (n + 1)
row_one of row new n patterns p so made is pushed =
    row_more of row new n patterns so (has_same patterns (of n) (made ∙ sym is)) (subst (λ (l : List PatternV). Rises ComesBefore l) (sym made) tt) pushed

-- a row that was read is the one at its place
pub row_read : (table : List (List (List PatternV))) (i : ℕ) (row : List (List PatternV))
    → i < length table → row ≡ get_or table i row → slice_index_or table i [] ≡ row
row_read [] i row low is = absurd (omega arith)
row_read (r ∷ table) zero row low is = sym is
row_read (r ∷ table) (suc i) row low is = row_read table i row (omega arith) is

pub choice_next : (of_part : ℕ → ℕ → List PatternV) (parts : List ℕ) (at i octet : ℕ)
    → slice_get parts at ≡ Some i → choice_of of_part (take at parts) octet ++ of_part i octet ≡ choice_of of_part
    (take (at + 1) parts) octet
choice_next of_part [] at i octet is = absurd (cc)
choice_next of_part (j ∷ parts) zero i octet is = (let same : j ≡ i = cc in sym (append-nil (of_part j octet) ∙ ap (λ k. of_part k octet) same))
choice_next of_part (j ∷ parts) (suc at) i octet is =
    let next : suc (at + 1) ≡ suc at + 1 = omega arith in
    append_assoc (of_part j octet) (choice_of of_part (take at parts) octet) (of_part i octet)
    ∙ ap (λ l. of_part j octet ++ l) (choice_next of_part parts at i octet is)
    ∙ ap (λ n. choice_of of_part (take n (j ∷ parts)) octet) next

-- ---- lists that are gone through

pub flat_next : (f : PatternV → List PatternV) (xs : List PatternV) (k : ℕ) (x : PatternV)
    → k < length xs → x ≡ get_or xs k x → flat_map f (take k xs) ++ f x ≡ flat_map f (take (k + 1) xs)
flat_next f xs k x low is =
    sym (ap (λ l. flat_map f l) (take_more xs k x low ∙ ap (λ y. take k xs ++ y ∷ []) (sym is))
    ∙ flat_map-append f (take k xs) (x ∷ []) ∙ ap (λ l. flat_map f (take k xs) ++ l) (append-nil (f x)))

pub map_next : (f : PatternV → PatternV) (xs : List PatternV) (k : ℕ) (x : PatternV)
    → k < length xs → x ≡ get_or xs k x → map f (take k xs) ++ f x ∷ [] ≡ map f (take (k + 1) xs)
map_next f xs k x low is =
    sym (ap (map f) (take_more xs k x low ∙ ap (λ y. take k xs ++ y ∷ []) (sym is)) ∙ map-append f (take k xs) (x ∷ []))
