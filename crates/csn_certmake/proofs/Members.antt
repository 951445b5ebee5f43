-- What lists have that are made of others, and rows made of rows with the same patterns.
use Rattle.std.proofs.Common.{◌≡◌, ℕ, zero, suc, ◌+◌, ◌%◌, ◌<◌, ◌≤◌, ⊎_elim, Bool, true, false, List, [], ◌∷◌, length}
use Rattle.std.proofs.Common.{map, flat_map, drop, refl, sym, ap, ◌∙◌, subst, arith, slice_index_or, slice_get, Some}
use Rattle.std.proofs.Common.{drop-cons}
use Rattle.std.specs.List.{Contains}
use Rattle.std.proofs.lemmas.List.Elements.{Contains-append_left, Contains-append_right, Contains-append_cases}
use Rattle.std.proofs.lemmas.Option.{slice_get_within, get_or_from_slice_get}
use Rattle.csn_cert.specs.PatternV.{PatternV}
use Rattle.csn_certmake.specs.Patterns.{joined, continued, before_all, times_of, patterns_in, HasSame, IsRow}

pub item_at : {X : Type 0} (xs : List X) (k : ℕ) → k < length xs → (x : X) × (slice_get xs k ≡ Some x)
item_at [] k less = absurd (omega (arith, less))
item_at (x ∷ xs) zero less = (x, refl)
item_at (x ∷ xs) (suc k) less = item_at xs k (omega (arith, less))

pub behind : {X : Type 0} (y : X) (xs : List X) (x : X) → Contains xs x → Contains (y ∷ xs) x
behind y xs x has = (suc has.0, omega (arith, has.1), has.2)

pub from_flat : {X Y : Type 0} (g : X → List Y) (xs : List X) (p : Y) → Contains (flat_map g xs) p → (x : X) × Contains xs x × Contains (g x) p
from_flat g [] p has = absurd (omega (arith, has.1))
from_flat g (x ∷ xs) p has =
    ⊎_elim
    (λ (here : Contains (g x) p). (x, (0, omega arith, refl), here))
    (λ (later : Contains (flat_map g xs) p). let found = from_flat g xs p later in (found.0, behind x xs found.0 found.1, found.2))
    (Contains-append_cases (g x) (flat_map g xs) p has)

pub to_flat : {X Y : Type 0} (g : X → List Y) (xs : List X) (k : ℕ) (x : X) (p : Y)
    → k < length xs → slice_index_or xs k x ≡ x → Contains (g x) p → Contains (flat_map g xs) p
to_flat g [] k x p low is has = absurd (omega arith)
to_flat {Y = Y} g (y ∷ xs) zero x p low is has = Contains-append_left (g y) (flat_map g xs) p (subst (λ z. Contains (g z) p) (sym is) has)
to_flat g (y ∷ xs) (suc k) x p low is has = Contains-append_right (g y) (flat_map g xs) p (to_flat g xs k x p (omega arith) is has)

pub from_map : {X Y : Type 0} (f : X → Y) (xs : List X) (k : ℕ) (p : Y) → k < length (map f xs)
    → slice_index_or (map f xs) k p ≡ p → (x : X) × Contains xs x × (f x ≡ p)
from_map f [] k p low is = absurd (omega arith)
from_map f (x ∷ xs) zero p low is = (x, (0, omega arith, refl), is)
from_map f (x ∷ xs) (suc k) p low is = (let found = from_map f xs k p (omega arith) is in (found.0, behind x xs found.0 found.1, found.2))

pub to_map : {X Y : Type 0} (f : X → Y) (xs : List X) (k : ℕ) (x : X) → k < length xs → slice_index_or xs k x ≡ x → Contains (map f xs) (f x)
to_map f [] k x low is = absurd (omega arith)
to_map f (y ∷ xs) zero x low is = (0, omega arith, ap f is)
to_map f (y ∷ xs) (suc k) x low is = behind (f y) (map f xs) (f x) (to_map f xs k x (omega arith) is)

flat_same : (g h : PatternV → List PatternV) (xs : List PatternV) → ((x : PatternV) → HasSame (g x) (h x)) → HasSame (flat_map g xs) (flat_map h xs)
flat_same g h xs same p = (
  λ has. let found = from_flat g xs p has in to_flat h xs found.1.0 found.0 p found.1.1 found.1.2 ((same found.0 p).0 found.2),
  λ has. let found = from_flat h xs p has in to_flat g xs found.1.0 found.0 p found.1.1 found.1.2 ((same found.0 p).1 found.2),
)

pub map_same : (f : PatternV → PatternV) (xs ys : List PatternV) → HasSame xs ys → HasSame (map f xs) (map f ys)
map_same f xs ys same p = (
  λ has. let found = from_map f xs has.0 p has.1 has.2 in let there =
      (same found.0).0 found.1 in subst (λ q. Contains (map f ys) q) found.2
      (to_map f ys there.0 found.0 there.1 there.2),
  λ has. let found = from_map f ys has.0 p has.1 has.2 in let there =
      (same found.0).1 found.1 in subst (λ q. Contains (map f xs) q) found.2
      (to_map f xs there.0 found.0 there.1 there.2),
)

pub same_again : (xs ys zs : List PatternV) → HasSame xs ys → HasSame ys zs → HasSame xs zs
same_again xs ys zs first second p = (λ has. (second p).0 ((first p).0 has), λ has. (first p).1 ((second p).1 has))

pub same_back : (xs ys : List PatternV) → HasSame xs ys → HasSame ys xs
same_back xs ys same p = ((same p).1, (same p).0)

continued_same : (row : List (List PatternV)) (rests : ℕ → List PatternV) (octet : ℕ) (first : PatternV)
    → ((o : ℕ) → o ≤ 7 → HasSame (patterns_in row o) (rests o))
    → HasSame (continued row octet first) (before_all rests octet first)
continued_same row rests octet first same = by_whole first.whole refl
  where
    by_whole : (b : Bool) → first.whole ≡ b → HasSame (continued row octet first) (before_all rests octet first)
    by_whole true is = (let k : ℕ = (octet + length first.marks) % 8 in rw is (map_same (joined first) (patterns_in row k) (rests k) (same k (omega arith))))
    by_whole false is = rw is (λ p. (λ has. has, λ has. has))

-- a part before what has the same patterns as a row
pub row_before : (part row new : List (List PatternV)) (rests : ℕ → List PatternV)
    → IsRow rests row → IsRow (λ octet. flat_map (continued row octet) (patterns_in part octet)) new
    → IsRow (λ octet. flat_map (before_all rests octet) (patterns_in part octet)) new
row_before part row new rests is made =
    record {
      eight = made.eight;
      same = λ octet low.
          same_again (patterns_in new octet) (flat_map (continued row octet) (patterns_in part octet))
          (flat_map (before_all rests octet) (patterns_in part octet))
          (made.same octet low) (flat_same (continued row octet) (before_all rests octet) (patterns_in part octet)
          (λ first. continued_same row rests octet first is.same));
      rising = made.rising;
    }

-- ---- turns

-- where one time more gives no others, no further time does
pub turns_stay : (part : ℕ → List PatternV) (row : List (List PatternV)) (k more : ℕ)
    → IsRow (times_of part k) row → IsRow (times_of part (suc k)) row → IsRow (times_of part (more + k)) row
turns_stay part row k zero is again = (let here : 0 + k ≡ k = omega arith in subst (λ (n : ℕ). IsRow (times_of part n) row) (sym here) is)
turns_stay part row k (suc more) is again =
    let before : IsRow (times_of part (more + k)) row = turns_stay part row k more is again in
    let next : suc (more + k) ≡ suc more + k = omega arith in
    subst (λ (n : ℕ). IsRow (times_of part n) row) next (record {
      eight = is.eight;
      same = λ octet low.
          same_again (patterns_in row octet) (times_of part (suc k) octet) (times_of part (suc (more + k)) octet) (again.same octet low)
          (flat_same (before_all (times_of part k) octet) (before_all (times_of part (more + k)) octet) (part octet)
          (λ first.
          same_again (before_all (times_of part k) octet first) (continued row octet first) (before_all (times_of part (more + k)) octet first)
          (same_back (continued row octet first) (before_all (times_of part k) octet first) (continued_same row (times_of part k) octet first is.same))
          (continued_same row (times_of part (more + k)) octet first before.same)));
      rising = is.rising;
    })

-- ---- the parts of a sequence

pub last_parts : (parts : List ℕ) (at i : ℕ) → slice_get parts at ≡ Some i → drop at parts ≡ i ∷ drop (suc at) parts
last_parts parts at i is = drop-cons parts at i (slice_get_within parts at i is) ∙ ap (λ j. j ∷ drop (suc at) parts) (get_or_from_slice_get parts at i i is)
