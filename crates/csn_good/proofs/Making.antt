-- Patterns that are made: two of them one after the other, and those of parts one after another.
use Rattle.std.proofs.Common.{◌≡◌, ℕ, zero, suc, ◌+◌, ◌*◌, ◌-◌, ◌%◌, ◌<◌, ◌≤◌, Bool, true, false, if◌then◌else◌, List}
use Rattle.std.proofs.Common.{[], ◌∷◌, ◌++◌, length, take, drop, inl, inr, refl, sym, ◌∙◌, ap, subst, arith, Option}
use Rattle.std.proofs.Common.{Some, None, slice_get, length-append}
use Rattle.std.specs.Prelude.{◌⊎◌, ◌↔◌, IsTrue, Contains, nat_le, ◌&&◌, is_some, IfSome}
use Rattle.std.proofs.lemmas.Bool.Decides.{nat_tests}
use Rattle.std.proofs.lemmas.List.Elements.{Contains-append_left, Contains-append_right, Contains-append_cases}
use Rattle.csn_cert.specs.declared.pattern.Mark.{Mark}
use Rattle.csn_cert.specs.PatternV.{PatternV}
use Rattle.csn_cert.specs.CertificateV.{NodeV, PositionV}
use Rattle.csn_good.specs.ClaimedSets.{patterns_at, patterns_of}
use Rattle.csn_good.specs.Patterns.{shortened, PartsPatterns, TimesPatterns, parts_none, parts_cut, parts_whole, times_none, times_cut, times_whole}
use Rattle.csn_good.specs.Behind.{JoinsOne}
use Rattle.csn_good.specs.Made.{MadeAt, AreMade, FirstMakes, makes_cut, makes_whole, SomeMakes}
use Rattle.std.proofs.lemmas.Option.{slice_get_within}
use Rattle.csn_good.proofs.Conflicting.{item_at}

-- ---- sets of patterns

pub one_more : {X : Type 0} (xs : List X) (x p : X) → Contains (xs ++ x ∷ []) p ↔ (Contains xs p ⊎ (p ≡ x))
one_more xs x p = (
  (λ h. elim (Contains-append_cases xs (x ∷ []) p h) [ inl there ↦ inl there | inr last ↦ inr (only x p last) ]),
  (λ h. elim h [
    | inl there ↦ Contains-append_left xs (x ∷ []) p there
    | inr same ↦ Contains-append_right xs (x ∷ []) p
        (subst (λ y. Contains (x ∷ []) y) (sym same) (0, omega arith, refl))
  ]),
)
  where
    only : {X : Type 0} (x p : X) → Contains (x ∷ []) p → p ≡ x
    only x p (zero, less, is) = sym is
    only x p (suc k, less, is) = absurd (omega arith)

-- ---- lists

pub take_part : {X : Type 0} (xs : List X) (k : ℕ) (x : X) → slice_get xs k ≡ Some x → take (k + 1) xs ≡ take k xs ++ x ∷ []
take_part [] k x at = absurd (cc)
take_part (y ∷ xs) zero x at = let same : y ≡ x = cc in ap (λ z. z ∷ []) same
take_part (y ∷ xs) (suc k) x at =
    let next : suc k + 1 ≡ suc (k + 1) = omega arith in
    ap (λ n. take n (y ∷ xs)) next ∙ ap (λ l. y ∷ l) (take_part xs k x at)

pub take_whole : {X : Type 0} (xs : List X) (k : ℕ) → length xs ≤ k → take k xs ≡ xs
take_whole [] zero long = refl
take_whole [] (suc k) long = refl
take_whole (x ∷ xs) zero long = absurd (omega arith)
take_whole (x ∷ xs) (suc k) long = ap (λ l. x ∷ l) (take_whole xs k (omega arith))

pub take_size : {X : Type 0} (xs : List X) (k : ℕ) → k ≤ length xs → length (take k xs) ≡ k
take_size [] zero few = refl
take_size [] (suc k) few = absurd (omega arith)
take_size (x ∷ xs) zero few = refl
take_size (x ∷ xs) (suc k) few = ap suc (take_size xs k (omega arith))

-- ---- two patterns one after the other

pub shorter : (marks : List Mark) (end test : Bool) → nat_le (length marks) 12 ≡ test → (both : PatternV)
    → both.marks ≡ take 12 marks → both.whole ≡ (end && test) → both ≡ shortened marks end
shorter marks end true test both is whole =
    let few : length marks ≤ 12 = grind (arith, nat_tests) in
    let all = is ∙ take_whole marks 12 few in
    let P : Bool → Type 0 = λ t. both ≡ (if t then record { marks = marks; whole = end } else record { marks = take 12 marks; whole = false }) in
    subst P (sym test) (ap (λ m. record { marks = m; whole = both.whole }) all ∙ ap (λ w. record { marks = marks; whole = w }) (whole ∙ always end))
  where
    always : (b : Bool) → (b && true) ≡ b
    always true = refl
    always false = refl
shorter marks end false test both is whole =
    let P : Bool → Type 0 = λ t. both ≡ (if t then record { marks = marks; whole = end } else record { marks = take 12 marks; whole = false }) in
    subst P (sym test) (ap (λ m. record { marks = m; whole = both.whole }) is ∙ ap (λ w. record { marks = take 12 marks; whole = w }) (whole ∙ never end))
  where
    never : (b : Bool) → (b && false) ≡ false
    never true = refl
    never false = refl

-- ---- what patterns make

pub joins_none : (first p : PatternV) (rests : List PatternV) → JoinsOne first (take 0 rests) p → ⊥
joins_none first p rests h = absurd (omega (arith, h.is_rest.1))

pub joins_on : (first rest p : PatternV) (rests : List PatternV) (k : ℕ) → slice_get rests k ≡ Some rest
    → JoinsOne first (take (k + 1) rests) p ↔
    (JoinsOne first (take k rests) p ⊎ (p ≡ shortened (first.marks ++ rest.marks) rest.whole))
joins_on first rest p rests k at =
    let same = take_part rests k rest at in
    subst (λ l. JoinsOne first l p ↔ (JoinsOne first (take k rests) p ⊎ (p ≡ shortened (first.marks ++ rest.marks) rest.whole))) (sym same) (
      (λ h. elim ((one_more (take k rests) rest h.rest).0 h.is_rest) [
        | inl there ↦ inl (record { rest = h.rest; is_rest = there; joined = h.joined })
        | inr last ↦ inr (h.joined ∙ ap (λ r. shortened (first.marks ++ r.marks) r.whole) last)
      ]),
      (λ h. elim h [
        | inl earlier ↦ record { rest = earlier.rest; is_rest = (one_more (take k rests) rest earlier.rest).1 (inl earlier.is_rest); joined = earlier.joined }
        | inr last ↦ record { rest = rest; is_rest = (one_more (take k rests) rest rest).1 (inr refl); joined = last }
      ]),
    )

pub joins_whole : (first p : PatternV) (rests : List PatternV) (k : ℕ) → length rests ≤ k → JoinsOne first (take k rests) p ↔ JoinsOne first rests p
joins_whole first p rests k long = subst (λ l. JoinsOne first l p ↔ JoinsOne first rests p) (sym (take_whole rests k long)) ((λ h. h), (λ h. h))

pub joins_made : (made : List (List PatternV)) (first p : PatternV) (octet : ℕ) (rests : List PatternV)
    → first.whole ≡ true → slice_get made ((octet + length first.marks) % 8) ≡ Some rests
    → JoinsOne first rests p ↔ FirstMakes (MadeAt made) first octet p
joins_made made first p octet rests whole at = (
  (λ h. makes_whole h.rest whole (record { patterns = rests; at = at; is_made = h.is_rest }) h.joined),
  back,
)
  where
    back : FirstMakes (MadeAt made) first octet p → JoinsOne first rests p
    back (makes_cut is_cut same) = absurd (cc)
    back (makes_whole rest is_whole there same) =
        let found = there.at in
        let list : there.patterns ≡ rests = cc in
        record { rest = rest; is_rest = subst (λ l. Contains l rest) list there.is_made; joined = same }

pub makes_only_itself : (others : ℕ → PatternV → Type 0) (first p : PatternV) (octet : ℕ) → first.whole ≡ false → FirstMakes others first octet p ↔ (p ≡ first)
makes_only_itself others first p octet cut = (to, (λ same. makes_cut cut same))
  where
    to : FirstMakes others first octet p → p ≡ first
    to (makes_cut is_cut same) = same
    to (makes_whole rest is_whole there same) = absurd (cc)

module _ (others : ℕ → PatternV → Type 0) (octet : ℕ) where
  pub some_none : (firsts : List PatternV) (p : PatternV) → SomeMakes others (take 0 firsts) octet p → ⊥
  some_none firsts p h = absurd (omega (arith, h.is_first.1))

  pub some_on : (firsts : List PatternV) (k : ℕ) (first p : PatternV) → slice_get firsts k ≡ Some first
      → SomeMakes others (take (k + 1) firsts) octet p ↔
      (SomeMakes others (take k firsts) octet p ⊎ FirstMakes others first octet p)
  some_on firsts k first p at =
      let same = take_part firsts k first at in
      subst (λ l. SomeMakes others l octet p ↔ (SomeMakes others (take k firsts) octet p ⊎ FirstMakes others first octet p)) (sym same) (
        (λ h. elim ((one_more (take k firsts) first h.first).0 h.is_first) [
          | inl there ↦ inl (record { first = h.first; is_first = there; makes = h.makes })
          | inr last ↦ inr (subst (λ f. FirstMakes others f octet p) last h.makes)
        ]),
        (λ h. elim h [
          | inl earlier ↦ record {
            first = earlier.first;
            is_first =
                (one_more (take k firsts) first earlier.first).1 (inl earlier.is_first);
            makes = earlier.makes;
          }
          | inr last ↦ record { first = first; is_first = (one_more (take k firsts) first first).1 (inr refl); makes = last }
        ]),
      )

  pub some_done : (firsts : List PatternV) (k : ℕ) (p : PatternV)
      → length firsts ≤ k → SomeMakes others (take k firsts) octet p ↔ SomeMakes others firsts octet p
  some_done firsts k p long = subst (λ l. SomeMakes others l octet p ↔ SomeMakes others firsts octet p) (sym (take_whole firsts k long)) ((λ h. h), (λ h. h))

-- ---- from each octet position on

pub record FilledTo (made : List (List PatternV)) (P : ℕ → PatternV → Type 0) (n : ℕ) : Type 0 where
  pub count : length made ≡ n
  pub are : (o : ℕ) (patterns : List PatternV) → slice_get made o ≡ Some patterns → (p : PatternV) → Contains patterns p ↔ P o p

fill_none : (P : ℕ → PatternV → Type 0) → FilledTo [] P 0
fill_none P = record { count = refl; are = λ o patterns at. absurd (cc) }

pub fill_begin : (P : ℕ → PatternV → Type 0) (made : List (List PatternV)) → made ≡ [] → FilledTo made P 0
fill_begin P made none = subst (λ l. FilledTo l P 0) (sym none) (fill_none P)

pub data PushedAt {X : Type 0} (xs : List X) (x : X) (o : ℕ) (y : X) : Type 0 where
  earlier : slice_get xs o ≡ Some y → PushedAt xs x o y
  last : o ≡ length xs → y ≡ x → PushedAt xs x o y

pub pushed_at : {X : Type 0} (xs : List X) (x : X) (o : ℕ) (y : X) → slice_get (xs ++ x ∷ []) o ≡ Some y → PushedAt xs x o y
pushed_at [] x zero y at = last refl (cc)
pushed_at [] x (suc o) y at = absurd (cc)
pushed_at (z ∷ xs) x zero y at = earlier at
pushed_at (z ∷ xs) x (suc o) y at = elim (pushed_at xs x o y at) [ earlier there ↦ earlier there | last end is ↦ last (ap suc end) is ]

pub fill_on : (P : ℕ → PatternV → Type 0) (made : List (List PatternV)) (n : ℕ) (patterns : List PatternV)
    → FilledTo made P n → ((p : PatternV) → Contains patterns p ↔ P n p) → FilledTo (made ++ patterns ∷ []) P (n + 1)
fill_on P made n patterns filled are = record {
  count = length-append made (patterns ∷ []) ∙ ap (λ m. m + 1) filled.count;
  are = λ o ps at p. elim (pushed_at made patterns o ps at) [
    | earlier there ↦ filled.are o ps there p
    | last end is ↦
        let place : o ≡ n = end ∙ filled.count in
        subst (λ m. Contains ps p ↔ P m p) (sym place) (subst (λ l. Contains l p ↔ P n p) (sym is) (are p))
  ];
}

pub fill_done : (P : ℕ → PatternV → Type 0) (made : List (List PatternV)) (n : ℕ) → 8 ≤ n → n ≤ 8 → FilledTo made P n → AreMade made P
fill_done P made n least most filled = record {
  eight = let count = filled.count in omega arith;
  are = λ o p low. (
    (λ h. (filled.are o h.patterns h.at p).0 h.is_made),
    (λ h. let count = filled.count in let there = item_at made o (omega arith) in
        record { patterns = there.0; at = there.1; is_made = (filled.are o there.0 there.1 p).1 h }),
  );
}

pub made_low : (made : List (List PatternV)) (o : ℕ) (p : PatternV) → length made ≡ 8 → MadeAt made o p → o ≤ 7
made_low made o p eight h = let inside = slice_get_within made o h.patterns h.at in omega arith

as_made : {made : List (List PatternV)} {P Q : ℕ → PatternV → Type 0} → AreMade made P → ((o : ℕ) (p : PatternV) → o ≤ 7 → P o p ↔ Q o p) → AreMade made Q
as_made are same = record {
  eight = are.eight;
  are = λ o p low. ((λ h. (same o p low).0 ((are.are o p low).0 h)), (λ h. (are.are o p low).1 ((same o p low).1 h)));
}

in_octet : (n : ℕ) → n % 8 ≤ 7
in_octet n = omega arith

some_as : {P Q : ℕ → PatternV → Type 0} {firsts : List PatternV} {o : ℕ} {p : PatternV}
    → ((k : ℕ) (r : PatternV) → k ≤ 7 → P k r → Q k r) → SomeMakes P firsts o p → SomeMakes Q firsts o p
some_as {P} {Q} {firsts} {o} {p} turn h = record { first = h.first; is_first = h.is_first; makes = first_as h.makes }
  where
    first_as : {first : PatternV} → FirstMakes P first o p → FirstMakes Q first o p
    first_as (makes_cut cut same) = makes_cut cut same
    first_as {first} (makes_whole rest whole there same) =
        makes_whole rest whole (turn ((o + length first.marks) % 8) rest (in_octet (o + length first.marks)) there)
        same

module _ (c : List NodeV) where
  -- ---- parts one after another

  parts_to : {parts : List ℕ} {i o : ℕ} {p : PatternV} → SomeMakes (PartsPatterns c parts) (patterns_at c i o) o p → PartsPatterns c (i ∷ parts) o p
  parts_to {parts} {i} {o} {p} h = to h.makes
    where
      to : FirstMakes (PartsPatterns c parts) h.first o p → PartsPatterns c (i ∷ parts) o p
      to (makes_cut cut same) = parts_cut (subst (λ q. Contains (patterns_at c i o) q) (sym same) h.is_first) (ap (λ q. q.whole) same ∙ cut)
      to (makes_whole rest whole there same) = parts_whole h.first rest h.is_first whole there same

  parts_back : {parts : List ℕ} {i o : ℕ} {p : PatternV} → PartsPatterns c (i ∷ parts) o p → SomeMakes (PartsPatterns c parts) (patterns_at c i o) o p
  parts_back {p = p} (parts_cut there cut) = record { first = p; is_first = there; makes = makes_cut cut refl }
  parts_back (parts_whole first others there whole rest same) = record { first = first; is_first = there; makes = makes_whole others whole rest same }

  pub parts_begin : (made : List (List PatternV)) → AreMade made (λ o p. p ≡ record { marks = []; whole = true }) → AreMade made (PartsPatterns c [])
  parts_begin made are = as_made are (λ o p low. ((λ h. parts_none h), back))
    where
      back : {o : ℕ} {p : PatternV} → PartsPatterns c [] o p → p ≡ record { marks = []; whole = true }
      back (parts_none same) = same

  pub parts_on : (parts : List ℕ) (i : ℕ) (old new : List (List PatternV)) → AreMade old (PartsPatterns c parts)
      → AreMade new (λ o p. SomeMakes (MadeAt old) (patterns_at c i o) o p)
      → AreMade new (PartsPatterns c (i ∷ parts))
  parts_on parts i old new are made =
      as_made made (λ o p low. (
        (λ h. parts_to (some_as (λ k r small. (are.are k r small).0) h)),
        (λ h. some_as (λ k r small. (are.are k r small).1) (parts_back h)),
      ))

  -- ---- a number of times one part

  times_to : {n i o : ℕ} {p : PatternV} → SomeMakes (TimesPatterns c n i) (patterns_at c i o) o p → TimesPatterns c (suc n) i o p
  times_to {n} {i} {o} {p} h = to h.makes
    where
      to : FirstMakes (TimesPatterns c n i) h.first o p → TimesPatterns c (suc n) i o p
      to (makes_cut cut same) = times_cut n refl (subst (λ q. Contains (patterns_at c i o) q) (sym same) h.is_first) (ap (λ q. q.whole) same ∙ cut)
      to (makes_whole rest whole there same) = times_whole n refl h.first rest h.is_first whole there same

  times_back : {n i o : ℕ} {p : PatternV} → TimesPatterns c (suc n) i o p → SomeMakes (TimesPatterns c n i) (patterns_at c i o) o p
  times_back (times_none over same) = absurd (omega arith)
  times_back {p = p} (times_cut m over there cut) = record { first = p; is_first = there; makes = makes_cut cut refl }
  times_back {n} {i} {o} (times_whole m over first others there whole rest same) =
      let count : m ≡ n = omega arith in
      record {
        first = first;
        is_first = there;
        makes =
            makes_whole others whole (subst (λ k. TimesPatterns c k i ((o + length first.marks) % 8) others) count rest)
            same;
      }

  pub times_begin : (i : ℕ) (made : List (List PatternV)) → AreMade made (λ o p. p ≡ record { marks = []; whole = true }) → AreMade made (TimesPatterns c 0 i)
  times_begin i made are = as_made are (λ o p low. ((λ h. times_none refl h), back))
    where
      back : {o : ℕ} {p : PatternV} → TimesPatterns c 0 i o p → p ≡ record { marks = []; whole = true }
      back (times_none over same) = same
      back (times_cut m over there cut) = absurd (omega arith)
      back (times_whole m over first others there whole rest same) = absurd (omega arith)

  pub times_on : (n i : ℕ) (old new : List (List PatternV)) → AreMade old (TimesPatterns c n i)
      → AreMade new (λ o p. SomeMakes (MadeAt old) (patterns_at c i o) o p) → AreMade new (TimesPatterns c (suc n) i)
  times_on n i old new are made =
      as_made made (λ o p low. (
        (λ h. times_to (some_as (λ k r small. (are.are k r small).0) h)),
        (λ h. some_as (λ k r small. (are.are k r small).1) (times_back h)),
      ))

  -- where one more time makes the same, any number more does
  abbrev Steady : ℕ → ℕ → ℕ → Type 0
  Steady n m i = (o : ℕ) (p : PatternV) → o ≤ 7 → TimesPatterns c m i o p ↔ TimesPatterns c n i o p

  steady : (n i : ℕ) → Steady n (suc n) i → (more m : ℕ) → m ≡ more + n → Steady n m i
  steady n i once zero m count =
      let same : n ≡ m = omega arith in
      subst (λ k. Steady n k i) same (λ o p low. ((λ h. h), (λ h. h)))
  steady n i once (suc more) zero count = absurd (omega arith)
  steady n i once (suc more) (suc m) count =
      let later = steady n i once more m (omega arith) in
      λ o p low. (
        (λ h. (once o p low).0 (times_to (some_as (λ k r small. (later k r small).0) (times_back h)))),
        (λ h. times_to (some_as (λ k r small. (later k r small).1) (times_back ((once o p low).1 h)))),
      )

  pub times_stay : (n turn i : ℕ) (old new : List (List PatternV)) → turn ≤ n → AreMade old (TimesPatterns c turn i)
      → AreMade new (TimesPatterns c (suc turn) i) → ((o : ℕ) (p : PatternV) → MadeAt new o p → MadeAt old o p)
      → ((o : ℕ) (p : PatternV) → MadeAt old o p → MadeAt new o p) → AreMade old (TimesPatterns c n i)
  times_stay n turn i old new most are more to back =
      let once : Steady turn (suc turn) i = λ o p low. (
        (λ h. (are.are o p low).0 (to o p ((more.are o p low).1 h))),
        (λ h. (more.are o p low).0 (back o p ((are.are o p low).1 h))),
      ) in
      let all = steady turn i once (n - turn) n (omega arith) in
      as_made are (λ o p low. ((all o p low).1, (all o p low).0))

-- ---- one fact for another

pub either_as : {A B C D : Type 0} → A ↔ (B ⊎ C) → (D ↔ C) → A ↔ (B ⊎ D)
either_as told other = (
  (λ a. elim (told.0 a) [ inl b ↦ inl b | inr c ↦ inr (other.1 c) ]),
  (λ h. elim h [ inl b ↦ told.1 (inl b) | inr d ↦ told.1 (inr (other.0 d)) ]),
)

pub flipped : {A B : Type 0} → A ↔ B → B ↔ A
flipped told = (told.1, told.0)

pub in_turn : {A B C : Type 0} → A ↔ B → B ↔ C → A ↔ C
in_turn first second = ((λ a. second.0 (first.0 a)), (λ c. first.1 (second.1 c)))

pub next_joins : {N M O J K X : Type 0} {p x y : X} → N ↔ (M ⊎ (p ≡ x)) → M ↔ (O ⊎ J) → K ↔ (J ⊎ (p ≡ y)) → x ≡ y → N ↔ (O ⊎ K)
next_joins added before now same = (
  (λ n. elim (added.0 n) [
    | inl m ↦ elim (before.0 m) [ inl o ↦ inl o | inr j ↦ inr (now.1 (inl j)) ]
    | inr e ↦ inr (now.1 (inr (e ∙ same)))
  ]),
  (λ h. elim h [
    | inl o ↦ added.1 (inl (before.1 (inl o)))
    | inr k ↦ elim (now.0 k) [ inl j ↦ added.1 (inl (before.1 (inr j))) | inr e ↦ added.1 (inr (e ∙ sym same)) ]
  ]),
)

pub next_sames : {N M J K X : Type 0} {p x y : X} → N ↔ (M ⊎ (p ≡ x)) → M ↔ J → K ↔ (J ⊎ (p ≡ y)) → x ≡ y → N ↔ K
next_sames added before now same = (
  (λ n. elim (added.0 n) [ inl m ↦ now.1 (inl (before.0 m)) | inr e ↦ now.1 (inr (e ∙ same)) ]),
  (λ k. elim (now.0 k) [ inl j ↦ added.1 (inl (before.1 j)) | inr e ↦ added.1 (inr (e ∙ sym same)) ]),
)

pub next_makes : {N M E J K : Type 0} → N ↔ (M ⊎ E) → M ↔ J → K ↔ (J ⊎ E) → N ↔ K
next_makes added before now = (
  (λ n. elim (added.0 n) [ inl m ↦ now.1 (inl (before.0 m)) | inr e ↦ now.1 (inr e) ]),
  (λ k. elim (now.0 k) [ inl j ↦ added.1 (inl (before.1 j)) | inr e ↦ added.1 (inr e) ]),
)

pub in_none : {X : Type 0} {xs : List X} {p : X} → xs ≡ [] → Contains xs p → ⊥
in_none {p = p} none there = let h = subst (λ l. Contains l p) none there in absurd (omega (arith, h.1))

pub only_it : {X : Type 0} {xs : List X} {p x y : X} (ys : List X) → Contains ys p ↔ (Contains xs p ⊎ (p ≡ x)) → xs ≡ [] → x ≡ y → Contains ys p ↔ (p ≡ y)
only_it ys told none same = (
  (λ h. elim (told.0 h) [ inl there ↦ absurd (in_none none there) | inr is ↦ is ∙ same ]),
  (λ is. told.1 (inr (is ∙ sym same))),
)

-- ---- claimed patterns

pub claimed_pattern : (at : Option PositionV) (k : ℕ) (p : PatternV) → IsTrue (is_some at)
    → IfSome at (λ q. slice_get q.patterns k ≡ Some p) → slice_get (patterns_of at) k ≡ Some p
claimed_pattern None k p there told = absurd (cc)
claimed_pattern (Some q) k p there told = told

pub claimed_count : (at : Option PositionV) (n : ℕ) → IsTrue (is_some at) → IfSome at (λ q. n ≡ length q.patterns) → n ≡ length (patterns_of at)
claimed_count None n there told = absurd (cc)
claimed_count (Some q) n there told = told
