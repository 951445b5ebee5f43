-- What stands behind patterns counts up to as many marks as there is room for, and behind twelve marks none.
use Rattle.std.proofs.Common.{◌≡◌, ℕ, zero, suc, ◌+◌, ◌%◌, ◌<◌, ◌≤◌, ◌⊎◌, inl, inr, Bool, true, false, ◌&&◌, List, [], ◌∷◌}
use Rattle.std.proofs.Common.{◌++◌, length, take, drop, map, flat_map, refl, sym, ap, ap₂, ◌∙◌, subst, arith, slice_get, Some}
use Rattle.std.proofs.Common.{length-append, slice_index_or, get_or}
use Rattle.std.specs.Prelude.{nat_le, Contains}
use Rattle.std.proofs.lemmas.Bool.{cases_lt}
use Rattle.std.proofs.lemmas.Bool.Decides.{nat_tests}
use Rattle.std.proofs.lemmas.List.{take_all, take_more, drop_all}
use Rattle.std.proofs.lemmas.List.Elements.{Contains-append_cases}
use Rattle.std.proofs.lemmas.Option.{slice_get_within}
use Rattle.csn_cert.specs.declared.pattern.Mark.{Mark}
use Rattle.csn_cert.specs.PatternV.{PatternV}
use Rattle.csn_certmake.specs.Patterns.{joined, before_all, continued, sequence_of, patterns_in, patterns_at, HasSame, IsRow}
use Rattle.csn_certmake.specs.Behind.{cut_to}
use Rattle.csn_certmake.specs.Near.{HaveMarks, HaveTogether, HasSameTo, IsRowTo, IsFar}
use Rattle.csn_certmake.proofs.Members.{from_flat, to_flat, from_map, to_map, map_same, same_again, row_before, last_parts}
use Rattle.csn_certmake.proofs.Making.{Before, is_cut, is_whole, before_told, before_cut, before_whole}

-- ---- the first marks

and_true : (b : Bool) → (b && true) ≡ b
and_true true = refl
and_true false = refl

and_false : (b : Bool) → (b && false) ≡ false
and_false true = refl
and_false false = refl

take_shorter : (n r : ℕ) (xs : List Mark) → n ≤ r → take n (take r xs) ≡ take n xs
take_shorter zero r xs low = refl
take_shorter (suc n) zero xs low = absurd (omega arith)
take_shorter (suc n) (suc r) [] low = refl
take_shorter (suc n) (suc r) (x ∷ xs) low = ap (λ l. x ∷ l) (take_shorter n r xs (omega arith))

take_behind : (front xs ys : List Mark) (r n : ℕ) → take r xs ≡ take r ys → n ≤ r + length front → take n (front ++ xs) ≡ take n (front ++ ys)
take_behind [] xs ys r n same low = sym (take_shorter n r xs (omega (arith, low))) ∙ ap (λ l. take n l) same ∙ take_shorter n r ys (omega (arith, low))
take_behind (x ∷ front) xs ys r zero same low = refl
take_behind (x ∷ front) xs ys r (suc n) same low = ap (λ l. x ∷ l) (take_behind front xs ys r n same (omega (arith, low)))

-- ---- patterns that are cut

-- the first marks, whole where these are all
abbrev cut_by : ℕ → PatternV → PatternV
cut_by room p = record { marks = take room p.marks; whole = p.whole && nat_le (length p.marks) room }

cut_is : (room : ℕ) (p : PatternV) → cut_to room p ≡ cut_by room p
cut_is room p = by_test (nat_le (length p.marks) room) refl
  where
    by_test : (test : Bool) → nat_le (length p.marks) room ≡ test → cut_to room p ≡ cut_by room p
    by_test true low =
        let small : length p.marks ≤ room = grind (arith, nat_tests, low) in
        let all : take room p.marks ≡ p.marks = take_all room p.marks small in
        rw low (sym (ap₂ (λ (m : List Mark) (w : Bool). record { marks = m; whole = w }) all (and_true p.whole)))
    by_test false low = rw low (ap (λ (w : Bool). record { marks = take room p.marks; whole = w }) (sym (and_false p.whole)))

is_low : (n m : ℕ) → nat_le n m ≡ true → n ≤ m
is_low n m test = grind (arith, nat_tests, test)

is_high : (n m : ℕ) → nat_le n m ≡ false → m < n
is_high n m test = grind (arith, nat_tests, test)

to_high : (n m : ℕ) → m < n → nat_le n m ≡ false
to_high n m high = go (nat_le n m) refl
  where
    go : (b : Bool) → nat_le n m ≡ b → nat_le n m ≡ false
    go true is = let low = is_low n m is in absurd (omega (arith, low, high))
    go false is = is

-- a pattern with marks before it
abbrev on : List Mark → PatternV → PatternV
on front p = record { marks = front ++ p.marks; whole = p.whole }

whole_behind : (front : List Mark) (x y : PatternV) (r n : ℕ) → take r x.marks ≡ take r y.marks
    → (x.whole && nat_le (length x.marks) r) ≡ (y.whole && nat_le (length y.marks) r) → n ≤ r + length front
    → (x.whole && nat_le (length (front ++ x.marks)) n) ≡ (y.whole && nat_le (length (front ++ y.marks)) n)
whole_behind front x y r n marks whole low = by_tests (nat_le (length x.marks) r) (nat_le (length y.marks) r) refl refl
  where
    long : (p : PatternV) → r < length p.marks → nat_le (length (front ++ p.marks)) n ≡ false
    long p high = to_high (length (front ++ p.marks)) n (omega (arith, high, low, length-append front p.marks))

    cut : (p q : PatternV) → nat_le (length p.marks) r ≡ true → nat_le (length q.marks) r ≡ false
        → (p.whole && nat_le (length p.marks) r) ≡ (q.whole && nat_le (length q.marks) r)
        → (p.whole && nat_le (length (front ++ p.marks)) n) ≡ (q.whole && nat_le (length (front ++ q.marks)) n)
    cut p q small big same =
        let none : p.whole ≡ false =
        sym (and_true p.whole) ∙ ap (λ b. p.whole && b) (sym small) ∙ same ∙ ap (λ b. q.whole && b) big ∙ and_false q.whole in
        ap (λ b. b && nat_le (length (front ++ p.marks)) n) none
        ∙ sym (ap (λ b. q.whole && b) (long q (is_high (length q.marks) r big)) ∙ and_false q.whole)

    by_tests : (t u : Bool) → nat_le (length x.marks) r ≡ t → nat_le (length y.marks) r ≡ u
        → (x.whole && nat_le (length (front ++ x.marks)) n) ≡ (y.whole && nat_le (length (front ++ y.marks)) n)
    by_tests true true first second =
        let all : x.marks ≡ y.marks =
        sym (take_all r x.marks (is_low (length x.marks) r first)) ∙ marks ∙ take_all r y.marks (is_low (length y.marks) r second) in
        let same : x.whole ≡ y.whole =
        sym (and_true x.whole) ∙ ap (λ b. x.whole && b) (sym first) ∙ whole ∙ ap (λ b. y.whole && b) second ∙ and_true y.whole in
        ap₂ (λ (w : Bool) (m : List Mark). w && nat_le (length (front ++ m)) n) same all
    by_tests true false first second = cut x y first second whole
    by_tests false true first second = sym (cut y x second first (sym whole))
    by_tests false false first second =
        ap (λ b. x.whole && b) (long x (is_high (length x.marks) r first)) ∙ and_false x.whole
        ∙ sym (ap (λ b. y.whole && b) (long y (is_high (length y.marks) r second)) ∙ and_false y.whole)

cut_behind : (front : List Mark) (x y : PatternV) (r n : ℕ) → cut_to r x ≡ cut_to r y → n ≤ r + length front → cut_to n (on front x) ≡ cut_to n (on front y)
cut_behind front x y r n same low =
    let own : cut_by r x ≡ cut_by r y = sym (cut_is r x) ∙ same ∙ cut_is r y in
    let marks : take r x.marks ≡ take r y.marks = ap (λ (p : PatternV). p.marks) own in
    let whole = ap (λ (p : PatternV). p.whole) own in
    cut_is n (on front x)
    ∙ ap₂ (λ (m : List Mark) (w : Bool). record { marks = m; whole = w })
    (take_behind front x.marks y.marks r n marks low) (whole_behind front x y r n marks whole low)
    ∙ sym (cut_is n (on front y))

cut_cut : (n m : ℕ) (p : PatternV) → n ≤ m → cut_to n (cut_to m p) ≡ cut_to n p
cut_cut n m p low = by_test (nat_le (length p.marks) m) refl
  where
    by_test : (test : Bool) → nat_le (length p.marks) m ≡ test → cut_to n (cut_to m p) ≡ cut_to n p
    by_test true small = rw small refl
    by_test false big =
        let cut : PatternV = record { marks = take m p.marks; whole = false } in
        let long = is_high (length p.marks) m big in
        let high : nat_le (length p.marks) n ≡ false = to_high (length p.marks) n (omega (arith, long, low)) in
        rw big (
        cut_is n cut
        ∙ ap (λ (l : List Mark). record { marks = l; whole = false }) (take_shorter n m p.marks low)
        ∙ sym (cut_is n p ∙ ap (λ (w : Bool). record { marks = take n p.marks; whole = w }) (ap (λ b. p.whole && b) high ∙ and_false p.whole))
        )

same_joined : (first x y : PatternV) (r : ℕ) → cut_to r x ≡ cut_to r y → 12 ≤ r + length first.marks → joined first x ≡ joined first y
same_joined first x y r same low = cut_behind first.marks x y r 12 same low

cut_joined : (first x y : PatternV) (r n : ℕ) → cut_to r x ≡ cut_to r y → n ≤ r + length first.marks → n ≤ 12 → cut_to n (joined first x) ≡ cut_to n (joined first y)
cut_joined first x y r n same low few =
    cut_cut n 12 (on first.marks x) few ∙ cut_behind first.marks x y r n same low ∙ sym (cut_cut n 12 (on first.marks y) few)

-- ---- patterns before others

turned : (room : ℕ) (xs ys : List PatternV) → HasSameTo room xs ys → HasSameTo room ys xs
turned room xs ys same p = ((same p).1, (same p).0)

-- one with the same first marks
other_one : (room : ℕ) (xs ys : List PatternV) (x : PatternV) → HasSameTo room xs ys → Contains xs x → (y : PatternV) × Contains ys y × (cut_to room x ≡ cut_to room y)
other_one room xs ys x same has =
    let there = (same (cut_to room x)).0 (to_map (cut_to room) xs has.0 x has.1 has.2) in
    let found = from_map (cut_to room) ys there.0 (cut_to room x) there.1 there.2 in
    (found.0, found.1, sym found.2)

module _ (R S : ℕ → List PatternV) (room : ℕ) (firsts : List PatternV) (h : PatternV → PatternV)
    (keeps : (first x y : PatternV) → Contains firsts first → first.whole ≡ true → cut_to room x ≡ cut_to room y → h (joined first x) ≡ h (joined first y)) where
  across : (octet : ℕ) → ((e : ℕ) → e ≤ 7 → HasSameTo room (R e) (S e)) → (x : PatternV) → Contains (flat_map (before_all R octet) firsts) x
      → (y : PatternV) × Contains (flat_map (before_all S octet) firsts) y × (h x ≡ h y)
  across octet same x has =
      let found = from_flat (before_all R octet) firsts x has in
      by_case found.0 found.1 (before_told R octet found.0 x found.2)
    where
      by_case : (first : PatternV) → Contains firsts first → Before R octet first x
          → (y : PatternV) × Contains (flat_map (before_all S octet) firsts) y × (h x ≡ h y)
      by_case first there (is_cut cut is) = (
        first,
        to_flat (before_all S octet) firsts there.0 first first there.1 there.2 (before_cut S octet first cut),
        ap h is,
      )
      by_case first there (is_whole others whole behind is) =
          let e : ℕ = (octet + length first.marks) % 8 in
          let other = other_one room (R e) (S e) others (same e (omega arith)) behind in (
            joined first other.0,
            to_flat (before_all S octet) firsts there.0 first (joined first other.0) there.1 there.2
                (before_whole S octet first other.0 (joined first other.0) whole other.1 refl),
            ap h is ∙ keeps first others other.0 there whole other.2,
          )

-- one direction of what is the same
half : (h : PatternV → PatternV) (xs ys : List PatternV) → ((x : PatternV) → Contains xs x → (y : PatternV) × Contains ys y × (h x ≡ h y))
    → (p : PatternV) → Contains (map h xs) p → Contains (map h ys) p
half h xs ys find p has =
    let found = from_map h xs has.0 p has.1 has.2 in
    let other = find found.0 found.1 in
    subst (λ q. Contains (map h ys) q) (sym other.2 ∙ found.2) (to_map h ys other.1.0 other.0 other.1.1 other.1.2)

module _ (R S : ℕ → List PatternV) (room least : ℕ) (firsts : List PatternV) (have : HaveMarks least firsts) (octet : ℕ)
    (same : (e : ℕ) → e ≤ 7 → HasSameTo room (R e) (S e)) where
  back : (e : ℕ) → e ≤ 7 → HasSameTo room (S e) (R e)
  back e low = turned room (R e) (S e) (same e low)

  pub before_to : (n : ℕ) → n ≤ room + least → n ≤ 12 → HasSameTo n (flat_map (before_all R octet) firsts) (flat_map (before_all S octet) firsts)
  before_to n low few p = (
    half (cut_to n) (flat_map (before_all R octet) firsts) (flat_map (before_all S octet) firsts) (across R S room firsts (cut_to n) keeps octet same) p,
    half (cut_to n) (flat_map (before_all S octet) firsts) (flat_map (before_all R octet) firsts) (across S R room firsts (cut_to n) keeps octet back) p,
  )
    where
      keeps : (first x y : PatternV) → Contains firsts first → first.whole ≡ true → cut_to room x ≡ cut_to room y → cut_to n (joined first x) ≡ cut_to n (joined first y)
      keeps first x y there whole cut = let marks = have first there whole in cut_joined first x y room n cut (omega (arith, marks, low)) few

  pub before_same : 12 ≤ room + least → HasSame (flat_map (before_all R octet) firsts) (flat_map (before_all S octet) firsts)
  before_same low p = (
    (λ has. let other = across R S room firsts (λ q. q) keeps octet same p has in
        subst (λ q. Contains (flat_map (before_all S octet) firsts) q) (sym other.2) other.1),
    (λ has. let other = across S R room firsts (λ q. q) keeps octet back p has in
        subst (λ q. Contains (flat_map (before_all R octet) firsts) q) (sym other.2) other.1),
  )
    where
      keeps : (first x y : PatternV) → Contains firsts first → first.whole ≡ true → cut_to room x ≡ cut_to room y → joined first x ≡ joined first y
      keeps first x y there whole cut = let marks = have first there whole in same_joined first x y room cut (omega (arith, marks, low))

zero_le : (n : ℕ) → 0 ≤ n
zero_le n = omega arith

-- ---- rows

pub to_of_row : (room : ℕ) (of : ℕ → List PatternV) (row : List (List PatternV)) → IsRow of row → IsRowTo room of row
to_of_row room of row is =
    record { eight = is.eight; same = λ octet low. map_same (cut_to room) (patterns_in row octet) (of octet) (is.same octet low) }

-- the row of a part before the parts from one on
module _ (row next part : List (List PatternV)) (S : ℕ → List PatternV) (least : ℕ)
    (made : IsRow (λ octet. flat_map (continued row octet) (patterns_in part octet)) next)
    (have : (octet : ℕ) → octet ≤ 7 → HaveMarks least (patterns_in part octet)) where
  pub next_to : (room n : ℕ) → IsRowTo room S row → n ≤ room + least → n ≤ 12
      → IsRowTo n (λ octet. flat_map (before_all S octet) (patterns_in part octet)) next
  next_to room n to low few =
      record {
        eight = made.eight;
        same = λ octet small.
            same_again (map (cut_to n) (patterns_in next octet)) (map (cut_to n) (flat_map (continued row octet) (patterns_in part octet)))
            (map (cut_to n) (flat_map (before_all S octet) (patterns_in part octet)))
            (map_same (cut_to n) (patterns_in next octet) (flat_map (continued row octet) (patterns_in part octet)) (made.same octet small))
            (before_to (patterns_in row) S room least (patterns_in part octet) (have octet small) octet to.same n low few);
      }

  pub next_whole : (room : ℕ) → IsRowTo room S row → 12 ≤ room + least
      → IsRow (λ octet. flat_map (before_all S octet) (patterns_in part octet)) next
  next_whole room to low =
      record {
        eight = made.eight;
        same = λ octet small.
            same_again (patterns_in next octet) (flat_map (continued row octet) (patterns_in part octet))
            (flat_map (before_all S octet) (patterns_in part octet))
            (made.same octet small)
            (before_same (patterns_in row) S room least (patterns_in part octet) (have octet small) octet to.same low);
        rising = made.rising;
      }

-- the marks of a row that has none are none
pub cut_again : (of : ℕ → List PatternV) (next cut : List (List PatternV)) → IsRowTo 0 of next
    → IsRow (λ octet. map (cut_to 0) (patterns_in next octet)) cut → IsRowTo 0 of cut
cut_again of next cut to is =
    record {
      eight = is.eight;
      same = λ octet low.
          same_again (map (cut_to 0) (patterns_in cut octet)) (map (cut_to 0) (map (cut_to 0) (patterns_in next octet))) (map (cut_to 0) (of octet))
          (map_same (cut_to 0) (patterns_in cut octet) (map (cut_to 0) (patterns_in next octet)) (is.same octet low))
          (same_again (map (cut_to 0) (map (cut_to 0) (patterns_in next octet))) (map (cut_to 0) (patterns_in next octet)) (map (cut_to 0) (of octet))
          (twice (patterns_in next octet)) (to.same octet low));
    }
  where
    twice_is : (ps : List PatternV) → map (cut_to 0) (map (cut_to 0) ps) ≡ map (cut_to 0) ps
    twice_is [] = refl
    twice_is (p ∷ ps) = ap₂ (λ (q : PatternV) (l : List PatternV). q ∷ l) (cut_cut 0 0 p (omega arith)) (twice_is ps)

    twice : (ps : List PatternV) → HasSame (map (cut_to 0) (map (cut_to 0) ps)) (map (cut_to 0) ps)
    twice ps = subst (λ (l : List PatternV). HasSame l (map (cut_to 0) ps)) (sym (twice_is ps)) (λ q. (λ h. h, λ h. h))

-- ---- from the near parts to the first one

-- the row is that of the parts from one on; or it has as many marks as these and those of the parts before leave out of
-- twelve
abbrev pub IsNearer : (ℕ → ℕ → List PatternV) → List ℕ → ℕ → List (List PatternV) → Type 0
IsNearer of_part parts at row =
    IsRow (sequence_of of_part (drop at parts)) row
    ⊎ ((room marks : ℕ) × (room < 12) × IsRowTo room (sequence_of of_part (drop at parts)) row × HaveTogether of_part parts at marks × (12 ≤ room + marks))

pub nearer_first : (of_part : ℕ → ℕ → List PatternV) (parts : List ℕ) (near : ℕ) (row : List (List PatternV))
    → (near < length parts → HaveTogether of_part parts near 12) → IsFar of_part parts near row → IsNearer of_part parts near row
nearer_first of_part parts near row marks far = by_order (cases_lt near (length parts))
  where
    by_order : (near < length parts) ⊎ (length parts ≤ near) → IsNearer of_part parts near row
    by_order (inl low) = inr (0, 12, omega arith, far.ends, marks low, omega arith)
    by_order (inr all) = inl (far.whole all)

pub nearer_end : (of_part : ℕ → ℕ → List PatternV) (parts : List ℕ) (row : List (List PatternV)) → IsNearer of_part parts 0 row → IsRow (sequence_of of_part parts) row
nearer_end of_part parts row (inl is) = is
nearer_end of_part parts row (inr h) = let low = h.2 in let none = h.4 in let enough = h.5 in absurd (omega (arith, low, none, enough))

module _ (rows : List (List (List PatternV))) (parts : List ℕ) (k at i : ℕ) (row next part : List (List PatternV)) (is : at ≡ suc k)
    (there : slice_get parts k ≡ Some i) (read : slice_index_or rows i [] ≡ part)
    (made : IsRow (λ octet. flat_map (continued row octet) (patterns_in part octet)) next) where
  abbrev rests : ℕ → List PatternV
  rests = sequence_of (patterns_at rows) (drop (suc k) parts)

  split : drop k parts ≡ i ∷ drop (suc k) parts
  split = last_parts parts k i there

  wrap : IsRow (λ octet. flat_map (before_all rests octet) (patterns_in part octet)) next → IsRow (sequence_of (patterns_at rows) (drop k parts)) next
  wrap x =
      subst (λ (ps : List ℕ). IsRow (sequence_of (patterns_at rows) ps) next) (sym split)
      (subst (λ (r : List (List PatternV)). IsRow (λ octet. flat_map (before_all rests octet) (patterns_in r octet)) next) (sym read) x)

  wrap_to : (n : ℕ) → IsRowTo n (λ octet. flat_map (before_all rests octet) (patterns_in part octet)) next
      → IsRowTo n (sequence_of (patterns_at rows) (drop k parts)) next
  wrap_to n x =
      subst (λ (ps : List ℕ). IsRowTo n (sequence_of (patterns_at rows) ps) next) (sym split)
      (subst (λ (r : List (List PatternV)). IsRowTo n (λ octet. flat_map (before_all rests octet) (patterns_in r octet)) next) (sym read) x)

  pub nearer_next : IsNearer (patterns_at rows) parts at row → IsNearer (patterns_at rows) parts k next
  nearer_next h = by_case (subst (λ n. IsNearer (patterns_at rows) parts n row) is h)
    where
      by_case : IsNearer (patterns_at rows) parts (suc k) row → IsNearer (patterns_at rows) parts k next
      by_case (inl own) = inl (wrap (row_before part row next rests own made))
      by_case (inr n) =
          let t = n.4 in
          let have = λ (octet : ℕ) (low : octet ≤ 7). subst (λ (r : List (List PatternV)). HaveMarks t.0 (patterns_in r octet)) read (t.2 i octet there low) in
          let more = t.4 in
          let enough = n.5 in
          elim (cases_lt (n.0 + t.0) 12) [
            | inl low ↦
                inr (
                  n.0 + t.0,
                  t.1,
                  low,
                  wrap_to (n.0 + t.0) (next_to row next part rests t.0 made have n.0 (n.0 + t.0) n.3 (omega arith) (omega (arith, low))),
                  t.3,
                  omega (arith, more, enough),
                )
            | inr high ↦ inl (wrap (next_whole row next part rests t.0 made have n.0 n.3 high))
          ]

  pub far_next : (cut : List (List PatternV)) → IsRow (λ octet. map (cut_to 0) (patterns_in next octet)) cut
      → IsFar (patterns_at rows) parts at row → IsFar (patterns_at rows) parts k cut
  far_next cut made_of far =
      let own = subst (λ n. IsFar (patterns_at rows) parts n row) is far in
      let none = λ (octet : ℕ) (low : octet ≤ 7) (p : PatternV) (h : Contains (patterns_in part octet) p) (w : p.whole ≡ true). zero_le (length p.marks) in
      record {
        ends =
            cut_again (sequence_of (patterns_at rows) (drop k parts)) next cut
            (wrap_to 0 (next_to row next part rests 0 made none 0 0 own.ends (omega arith) (omega arith))) made_of;
        whole = λ all. let inside = slice_get_within parts k i there in absurd (omega (arith, all, inside));
      }

pub far_first : (of_part : ℕ → ℕ → List PatternV) (parts : List ℕ) (at : ℕ) (row : List (List PatternV)) → at ≡ length parts
    → IsRow (sequence_of of_part []) row → IsFar of_part parts at row
far_first of_part parts at row is own =
    let none : drop at parts ≡ [] = drop_all at parts (omega (arith, is)) in
    let here = subst (λ (ps : List ℕ). IsRow (sequence_of of_part ps) row) (sym none) own in
    record { ends = to_of_row 0 (sequence_of of_part (drop at parts)) row here; whole = λ all. here }

-- ---- how many parts are near

-- the same fact of a part that has a row
pub together_next : (rows : List (List (List PatternV))) (parts : List ℕ) (k i least before : ℕ) (part : List (List PatternV))
    → slice_get parts k ≡ Some i → slice_index_or rows i [] ≡ part
    → ((octet : ℕ) → octet ≤ 7 → HaveMarks least (patterns_in part octet)) → HaveTogether (patterns_at rows) parts k before
    → HaveTogether (patterns_at rows) parts (suc k) (before + least)
together_next rows parts k i least before part there read have together = (
  least,
  before,
  (λ j octet at low.
      let same : i ≡ j = cc in
      subst (λ n. HaveMarks least (patterns_at rows n octet)) same (subst (λ (r : List (List PatternV)). HaveMarks least (patterns_in r octet)) (sym read) (have octet low))),
  together,
  omega arith,
)

pub fewer_together : (of_part : ℕ → ℕ → List PatternV) (parts : List ℕ) (k marks more : ℕ) → marks ≤ more → HaveTogether of_part parts (suc k) more
    → HaveTogether of_part parts (suc k) marks
fewer_together of_part parts k marks more low h = let le = h.4 in (h.0, h.1, h.2, h.3, omega (arith, low, le))

pub twelve_together : (of_part : ℕ → ℕ → List PatternV) (parts : List ℕ) (k more : ℕ) → 12 ≤ more → HaveTogether of_part parts k more → HaveTogether of_part parts k 12
twelve_together of_part parts zero more low h = absurd (omega (arith, low, h))
twelve_together of_part parts (suc k) more low h = fewer_together of_part parts k 12 more low h

-- ---- the least number of marks

only_one : (x p : PatternV) → Contains (x ∷ []) p → x ≡ p
only_one x p (zero, low, is) = is
only_one x p (suc k, low, is) = absurd (omega arith)

pub fewer_marks : (less least : ℕ) (ps : List PatternV) → less ≤ least → HaveMarks least ps → HaveMarks less ps
fewer_marks less least ps low have p there whole = let marks = have p there whole in omega (arith, low, marks)

pub no_patterns : (ps : List PatternV) (least : ℕ) → HaveMarks least (take 0 ps)
no_patterns ps least p h whole = absurd (omega (arith, h.1))

pub one_pattern_more : (ps : List PatternV) (k least : ℕ) (x : PatternV) → k < length ps → x ≡ get_or ps k x
    → (x.whole ≡ true → least ≤ length x.marks) → HaveMarks least (take k ps) → HaveMarks least (take (k + 1) ps)
one_pattern_more ps k least x low is this before =
    subst (λ (l : List PatternV). HaveMarks least l) (sym (take_more ps k x low ∙ ap (λ y. take k ps ++ y ∷ []) (sym is))) (λ p h whole.
    elim (Contains-append_cases (take k ps) (x ∷ []) p h) [
      | inl there ↦ before p there whole
      | inr last ↦
          let same = only_one x p last in
          subst (λ (q : PatternV). least ≤ length q.marks) same (this (ap (λ (q : PatternV). q.whole) same ∙ whole))
    ])

pub least_of_more : (row : List (List PatternV)) (n least new octet : ℕ) (patterns : List PatternV) → patterns_in row n ≡ patterns → new ≤ least
    → HaveMarks new patterns → ((o : ℕ) → o < n → HaveMarks least (patterns_in row o)) → octet < n + 1 → HaveMarks new (patterns_in row octet)
least_of_more row n least new octet patterns is less here before low =
    elim (cases_lt octet n) [
      | inl inside ↦ fewer_marks new least (patterns_in row octet) less (before octet inside)
      | inr past ↦ (
          let same : n ≡ octet = omega arith in
          subst (λ k. HaveMarks new (patterns_in row k)) same (subst (λ (l : List PatternV). HaveMarks new l) (sym is) here))
    ]
