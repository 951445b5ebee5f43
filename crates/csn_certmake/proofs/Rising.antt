-- Lists that rise are told by what they have.
use Rattle.std.proofs.Common.{◌≡◌, ◌≢◌, ℕ, zero, suc, ◌<◌, ◌⊎◌, ◌↔◌, inl, inr, Bool, true, false, List, [], ◌∷◌}
use Rattle.std.proofs.Common.{length, refl, sym, ap, ◌∙◌, subst, arith, slice_index_or, slice_get, Some, None, find}
use Rattle.std.specs.Prelude.{◌==◌, Contains}
use Rattle.std.specs.List.{AllByRecursion}
use Rattle.std.specs.Cmp.Lexicographic.{nat_list_cmp_total}
use Rattle.std.specs.Ordering.{ordering_reverse}
use Rattle.std.specs.declared.cmp.Ordering.TheVariants.{Less, Greater}
use Rattle.std.proofs.lemmas.Bool.{cases_order}
use Rattle.std.proofs.lemmas.Bool.Decides.{nat_tests}
use Rattle.csn_cert.specs.PatternV.{PatternV}
use Rattle.csn_cert.specs.PatternText.{pattern_text, ComesBefore}
use Rattle.csn_cert.specs.CertificateV.{Rises, PositionV}
use Rattle.csn_certmake.proofs.Members.{behind}
use Rattle.csn_certmake.proofs.Positions.{octet_is, octet_differs}

-- ---- by an order

contains_cases : {A : Type 0} (x : A) (xs : List A) (p : A) (k : ℕ) → k < length (x ∷ xs) → slice_index_or (x ∷ xs) k p ≡ p → (x ≡ p) ⊎ Contains xs p
contains_cases x xs p zero low is = inl is
contains_cases x xs p (suc k) low is = inr (k, omega (arith, low), is)

all_at : {A : Type 0} (P : A → Type 0) (xs : List A) (p : A) (k : ℕ) → AllByRecursion P xs → k < length xs → slice_index_or xs k p ≡ p → P p
all_at P [] p k all low is = absurd (omega (arith, low))
all_at P (x ∷ xs) p zero all low is = subst P is all.0
all_at P (x ∷ xs) p (suc k) all low is = all_at P xs p k all.1 (omega (arith, low)) is

module _ {A : Type 0} (Before : A → A → Type 0) (further : (x y z : A) → Before x y → Before y z → Before x z) where
  all_further : (x y : A) (ys : List A) → Before x y → AllByRecursion (Before y) ys → AllByRecursion (Before x) ys
  all_further x y [] before all = tt
  all_further x y (z ∷ zs) before all = (further x y z before all.0, all_further x y zs before all.1)

  -- all later ones stand behind the first
  pub all_behind : (x : A) (xs : List A) → Rises Before (x ∷ xs) → AllByRecursion (Before x) xs
  all_behind x [] rises = tt
  all_behind x (y ∷ ys) rises = (rises.0, all_further x y ys rises.0 (all_behind y ys rises.1))

  pub rises_later : (x : A) (xs : List A) → Rises Before (x ∷ xs) → Rises Before xs
  rises_later x [] rises = tt
  rises_later x (y ∷ ys) rises = rises.1

  module _ (never : (x : A) → Before x x → ⊥) where
    -- of two that each are the other or stand behind it, the one is the other
    one_first : (x y : A) → (x ≡ y) ⊎ Before x y → (y ≡ x) ⊎ Before y x → x ≡ y
    one_first x y (inl same) back = same
    one_first x y (inr before) (inl same) = sym same
    one_first x y (inr before) (inr after) = absurd (never x (further x y x before after))

    first_or_behind : (x : A) (xs : List A) (p : A) → Rises Before (x ∷ xs) → Contains (x ∷ xs) p → (x ≡ p) ⊎ Before x p
    first_or_behind x xs p rises has = elim (contains_cases x xs p has.0 has.1 has.2) [
      | inl same ↦ inl same
      | inr later ↦ inr (all_at (Before x) xs p later.0 (all_behind x xs rises) later.1 later.2)
    ]

    -- what the longer list has behind its first is no first
    has_later : (x y : A) (xs ys : List A) (p : A) → x ≡ y → Rises Before (x ∷ xs) → Contains xs p → Contains (y ∷ ys) p → Contains ys p
    has_later x y xs ys p same rises has found = elim (contains_cases y ys p found.0 found.1 found.2) [
      | inl here ↦ (
          let after : Before x p = all_at (Before x) xs p has.0 (all_behind x xs rises) has.1 has.2 in
          absurd (never p (subst (λ z. Before z p) (same ∙ here) after))
          )
      | inr later ↦ later
    ]

    pub rising_same : (xs ys : List A) → Rises Before xs → Rises Before ys → ((p : A) → Contains xs p ↔ Contains ys p) → xs ≡ ys
    rising_same [] [] rises rises' same = refl
    rising_same [] (y ∷ ys) rises rises' same = (let none = (same y).1 (0, omega arith, refl) in absurd (omega (arith, none.1)))
    rising_same (x ∷ xs) [] rises rises' same = (let none = (same x).0 (0, omega arith, refl) in absurd (omega (arith, none.1)))
    rising_same (x ∷ xs) (y ∷ ys) rises rises' same =
        let there = (same x).0 (0, omega arith, refl) in
        let back = (same y).1 (0, omega arith, refl) in
        let first : x ≡ y = one_first x y (first_or_behind x xs y rises back) (first_or_behind y ys x rises' there) in
        let rest : xs ≡ ys =
        rising_same xs ys (rises_later x xs rises) (rises_later y ys rises') (λ p. (
          λ has. has_later x y xs ys p first rises has ((same p).0 (behind x xs p has)),
          λ has. has_later y x ys xs p (sym first) rises' has ((same p).1 (behind y ys p has)),
        )) in
        ap (λ z. z ∷ xs) first ∙ ap (λ l. y ∷ l) rest

-- ---- patterns

further_pattern : (p q r : PatternV) → ComesBefore p q → ComesBefore q r → ComesBefore p r
further_pattern p q r first second = nat_list_cmp_total.trans (pattern_text p) (pattern_text q) (pattern_text r) first second

no_pattern_before : (p : PatternV) → ComesBefore p p → ⊥
no_pattern_before p before =
    let turned = nat_list_cmp_total.antisymm (pattern_text p) (pattern_text p) in
    let wrong : Less ≡ Greater = sym before ∙ turned ∙ ap ordering_reverse before in
    cc

-- patterns in the order of their texts are told by which they are
pub patterns_same : (ps qs : List PatternV) → Rises ComesBefore ps → Rises ComesBefore qs → ((p : PatternV) → Contains ps p ↔ Contains qs p) → ps ≡ qs
patterns_same = rising_same ComesBefore further_pattern no_pattern_before

-- ---- positions

found_here : (p : PositionV) (ps : List PositionV) (o : ℕ) → p.octet ≡ o → find (λ q. q.octet == o) (p ∷ ps) ≡ Some p
found_here p ps o is = rw (octet_is p.octet o is) refl

found_later : (p : PositionV) (ps : List PositionV) (o : ℕ) → p.octet ≢ o → find (λ q. q.octet == o) (p ∷ ps) ≡ find (λ q. q.octet == o) ps
found_later p ps o differ = rw (octet_differs p.octet o differ) refl

-- none is found in front of all
none_before : (o : ℕ) (ps : List PositionV) → AllByRecursion (λ p. o < p.octet) ps → find (λ q. q.octet == o) ps ≡ None
none_before o [] all = refl
none_before o (p ∷ ps) all = (let low : o < p.octet = all.0 in let differ : p.octet ≢ o = omega (arith, low) in
    found_later p ps o differ ∙ none_before o ps all.1)

further : (x y z : PositionV) → x.octet < y.octet → y.octet < z.octet → x.octet < z.octet
further x y z low high = omega (arith, low, high)

-- a position before the first of some that rise stands before all
all_above : (o : ℕ) (p : PositionV) (ps : List PositionV) → o < p.octet → Rises (λ q r. q.octet < r.octet) (p ∷ ps) → AllByRecursion (λ q. o < q.octet) ps
all_above o p [] low rises = tt
all_above o p (q ∷ ps) low rises =
    let next : p.octet < q.octet = rises.0 in
    let high : o < q.octet = omega (arith, low, next) in
    (high, all_above o q ps high rises.1)

first_same : (p q : PositionV) (ps qs : List PositionV) → Rises (λ x y. x.octet < y.octet) (p ∷ ps)
    → Rises (λ x y. x.octet < y.octet) (q ∷ qs)
    → ((o : ℕ) → find (λ r. r.octet == o) (p ∷ ps) ≡ find (λ r. r.octet == o) (q ∷ qs)) → p ≡ q
first_same p q ps qs rises rises' same = elim (cases_order p.octet q.octet) [
  | inl is ↦ (
      let found : Some p ≡ Some q = sym (found_here p ps p.octet refl) ∙ same p.octet ∙ found_here q qs p.octet (sym is) in cc
      )
  | inr apart ↦ elim apart [
    | inl less ↦ (
        let wrong : Some p ≡ None = sym (found_here p ps p.octet refl)
        ∙ same p.octet ∙ none_before p.octet (q ∷ qs) (less, all_above p.octet q qs less rises') in absurd (cc)
        )
    | inr more ↦ (
        let wrong : None ≡ Some q = sym (none_before q.octet (p ∷ ps) (more, all_above q.octet p ps more rises))
        ∙ same q.octet ∙ found_here q qs q.octet refl in absurd (cc)
        )
  ]
]

-- behind a position none is found where it is, and elsewhere the same as with it
later_same : (p q : PositionV) (ps qs : List PositionV) (o : ℕ) (b : Bool)
    → (p.octet == o) ≡ b → p ≡ q → Rises (λ x y. x.octet < y.octet) (p ∷ ps)
    → Rises (λ x y. x.octet < y.octet) (q ∷ qs) → find (λ r. r.octet == o) (p ∷ ps) ≡ find (λ r. r.octet == o)
    (q ∷ qs) → find (λ r. r.octet == o) ps ≡ find (λ r. r.octet == o) qs
later_same p q ps qs o true is first rises rises' same =
    let here : p.octet ≡ o = grind (arith, nat_tests, is) in
    let there : q.octet ≡ o = ap (λ (r : PositionV). r.octet) (sym first) ∙ here in
    none_before o ps (subst (λ n. AllByRecursion (λ r. n < r.octet) ps) here (all_behind (λ x y. x.octet < y.octet) further p ps rises))
    ∙ sym (none_before o qs (subst (λ n. AllByRecursion (λ r. n < r.octet) qs) there (all_behind (λ x y. x.octet < y.octet) further q qs rises')))
later_same p q ps qs o false is first rises rises' same =
    let differ : p.octet ≢ o = grind (arith, nat_tests, is) in
    let differ' : q.octet ≢ o = λ e. differ (ap (λ (r : PositionV). r.octet) first ∙ e) in
    sym (found_later p ps o differ) ∙ same ∙ found_later q qs o differ'

-- positions that rise are told by which is found at each octet position
pub positions_same : (ps qs : List PositionV) → Rises (λ p q. p.octet < q.octet) ps → Rises (λ p q. p.octet < q.octet)
    qs → ((o : ℕ) → find (λ p. p.octet == o) ps ≡ find (λ p. p.octet == o) qs) → ps ≡ qs
positions_same [] [] rises rises' same = refl
positions_same [] (q ∷ qs) rises rises' same =
    let wrong : None ≡ Some q = same q.octet ∙ found_here q qs q.octet refl in absurd (cc)
positions_same (p ∷ ps) [] rises rises' same =
    let wrong : Some p ≡ None = sym (found_here p ps p.octet refl) ∙ same p.octet in absurd (cc)
positions_same (p ∷ ps) (q ∷ qs) rises rises' same =
    let first = first_same p q ps qs rises rises' same in
    let rest : ps ≡ qs =
    positions_same ps qs (rises_later (λ x y. x.octet < y.octet) further p ps rises) (rises_later (λ x y. x.octet < y.octet) further q qs rises')
    (λ o. later_same p q ps qs o (p.octet == o) refl first rises rises' (same o)) in
    ap (λ z. z ∷ ps) first ∙ ap (λ l. q ∷ l) rest

-- ---- lists

-- lists are told by what they have at each place
pub places_same : {A : Type 0} (xs ys : List A) → length xs ≡ length ys → ((i : ℕ) → i < length xs → slice_get xs i ≡ slice_get ys i) → xs ≡ ys
places_same [] [] long same = refl
places_same [] (y ∷ ys) long same = absurd (omega (arith, long))
places_same (x ∷ xs) [] long same = absurd (omega (arith, long))
places_same (x ∷ xs) (y ∷ ys) long same =
    let found : Some x ≡ Some y = same 0 (omega arith) in
    let first : x ≡ y = cc in
    let rest : xs ≡ ys = places_same xs ys (omega (arith, long)) (λ i less. same (suc i) (omega (arith, less))) in
    ap (λ z. z ∷ xs) first ∙ ap (λ l. y ∷ l) rest
