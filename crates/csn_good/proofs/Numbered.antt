-- Patterns by numbers: each number has one pattern, a pattern that is cut and two patterns that are joined have numbers
-- that come from theirs, and what sets of numbers have.
use Rattle.std.proofs.Common.{◌≡◌, ℕ, zero, suc, ◌+◌, ◌*◌, ◌-◌, ◌/◌, ◌%◌, ◌<◌, ◌≤◌, Bool, true, false, if◌then◌else◌, List}
use Rattle.std.proofs.Common.{[], ◌∷◌, ◌++◌, length, take, drop, set, replicate, map, inl, inr, refl, sym, ◌∙◌, ap, subst, arith}
use Rattle.std.proofs.Common.{Some, None, slice_get, nat_eq, length-append, append_assoc, append-nil}
use Rattle.std.specs.Option.{option_map}
use Rattle.std.specs.Prelude.{◌^◌, ◌⊎◌, ◌↔◌, IsTrue, Contains, nat_le, ◌==◌, Result, Ok, Err, OnOk, OnErr}
use Rattle.std.specs.List.{list_any}
use Rattle.std.proofs.lemmas.Bool.{ne_eqb}
use Rattle.std.proofs.lemmas.Bool.Decides.{nat_tests}
use Rattle.std.proofs.lemmas.Nat.{mod-mul-add}
use Rattle.std.proofs.Math.Nat.{pow-succ', mul_assoc, mul_comm}
use Rattle.std.proofs.lemmas.List.{length-map}
use Rattle.std.proofs.lemmas.Option.{slice_get-map, slice_get_within}
use Rattle.std.proofs.lemmas.List.Elements.{Contains-append_left, Contains-append_right, Contains-append_cases}
use Rattle.csn_cert.specs.declared.pattern.Mark.{Mark}
use Rattle.csn_cert.specs.declared.pattern.Mark.TheVariants.{Zero, One, Any}
use Rattle.csn_cert.specs.PatternV.{PatternV}
use Rattle.csn_good.specs.Patterns.{shortened}
use Rattle.csn_good.specs.Behind.{cut_to}
use Rattle.csn_good.specs.Numbers.{digit_of, mark_for, marks_number, end_number, pattern_number, marks_of, pattern_of, IsNumber, AreNumbers, marked}
use Rattle.indexmap.specs.IndexSet.{insert_key}
use Rattle.csn_good.proofs.EndsTold.{drop_part}
use Rattle.csn_good.proofs.Making.{one_more, take_part, take_size, take_whole}
use Rattle.csn_good.proofs.Behind.{cut_joins}
use Rattle.csn_good.proofs.Conflicting.{item_at, contained_at, at_contained}
use Rattle.csn_good.proofs.Denoting.{found}

-- ---- numbers

digit_low : (mark : Mark) → (1 ≤ digit_of mark) × (digit_of mark ≤ 3)
digit_low Zero = (omega arith, omega arith)
digit_low One = (omega arith, omega arith)
digit_low Any = (omega arith, omega arith)

digit_back : (mark : Mark) → mark_for (digit_of mark) ≡ mark
digit_back Zero = refl
digit_back One = refl
digit_back Any = refl

abbrev most_number : ℕ → ℕ
most_number zero = 0
most_number (suc n) = 3 * most_number n + 3

number_low : (marks : List Mark) (n : ℕ) → length marks ≤ n → marks_number marks ≤ most_number n
number_low [] n few = omega arith
number_low (mark ∷ marks) zero few = absurd (omega arith)
number_low (mark ∷ marks) (suc n) few = let low = digit_low mark in let later = number_low marks n (omega arith) in omega arith

dropped : (marks : List Mark) (k n : ℕ) → length marks ≤ n → length (drop k marks) ≤ n
dropped marks zero n few = few
dropped [] (suc k) n few = few
dropped (mark ∷ marks) (suc k) n few = dropped marks k n (omega arith)

pub number_small : (marks : List Mark) (k number : ℕ) → length marks ≤ 12 → number ≡ marks_number (drop k marks) → number ≤ 797160
number_small marks k number few is = let low = number_low (drop k marks) 12 (dropped marks k 12 few) in omega (arith, low, is)

pub digit_small : (mark : Mark) → digit_of mark ≤ 3
digit_small mark = (digit_low mark).1

pub number_more : (marks : List Mark) (k : ℕ) (mark : Mark) → 0 < k → slice_get marks (k - 1) ≡ Some mark
    → 3 * marks_number (drop k marks) + digit_of mark ≡ marks_number (drop (k - 1) marks)
number_more marks k mark some at =
    let same = drop_part marks (k - 1) mark at in
    let next : k - 1 + 1 ≡ k = omega arith in
    let P : ℕ → Type 0 = λ n. drop (k - 1) marks ≡ mark ∷ drop n marks in
    sym (ap marks_number (subst P next same))

-- ---- and back

marks_step : (count n d : ℕ) → 1 ≤ d → d ≤ 3 → marks_of (suc count) (3 * n + d) ≡ mark_for d ∷ marks_of count n
marks_step count n d low high =
    let some : (3 * n + d == 0) ≡ false = ne_eqb (3 * n + d) 0 (λ e. omega (arith, low, e)) in
    let digit : (3 * n + d - 1) % 3 + 1 ≡ d = omega arith in
    let rest : (3 * n + d - 1) / 3 ≡ n = omega arith in
    ap (λ b. if b then [] else mark_for ((3 * n + d - 1) % 3 + 1) ∷ marks_of count ((3 * n + d - 1) / 3)) some
    ∙ ap (λ k. mark_for k ∷ marks_of count ((3 * n + d - 1) / 3)) digit ∙ ap (λ k. mark_for d ∷ marks_of count k) rest

-- the next mark is added to those before it
no_marks : (count : ℕ) → marks_of count 0 ≡ []
no_marks zero = refl
no_marks (suc count) = refl

pub no_next : (marks : List Mark) (count rest : ℕ) → rest ≡ 0 → marks ++ marks_of count 0 ≡ marks ++ marks_of (suc count) rest
no_next marks count rest none =
    ap (λ l. marks ++ l) (no_marks count ∙ sym (no_marks (suc count)) ∙ ap (λ n. marks_of (suc count) n) (sym none))

pub next_mark : (marks : List Mark) (count rest : ℕ) → 0 < rest
    → (marks ++ mark_for ((rest - 1) % 3 + 1) ∷ []) ++ marks_of count ((rest - 1) / 3) ≡ marks ++ marks_of (suc count) rest
next_mark marks count rest some =
    let test : (rest == 0) ≡ false = ne_eqb rest 0 (λ e. omega (arith, some, e)) in
    let mark : Mark = mark_for ((rest - 1) % 3 + 1) in
    append_assoc marks (mark ∷ []) (marks_of count ((rest - 1) / 3))
    ∙ ap (λ (b : Bool). marks ++ (if b then [] else mark ∷ marks_of count ((rest - 1) / 3))) (sym test)

marks_back : (marks : List Mark) (count : ℕ) → length marks ≤ count → marks_of count (marks_number marks) ≡ marks
marks_back [] zero few = refl
marks_back [] (suc count) few = refl
marks_back (mark ∷ marks) zero few = absurd (omega arith)
marks_back (mark ∷ marks) (suc count) few =
    let low = digit_low mark in
    marks_step count (marks_number marks) (digit_of mark) low.0 low.1
    ∙ ap (λ m. m ∷ marks_of count (marks_number marks)) (digit_back mark)
    ∙ ap (λ l. mark ∷ l) (marks_back marks count (omega arith))

pub marks_few : (count number : ℕ) → length (marks_of count number) ≤ count
marks_few zero number = omega arith
marks_few (suc count) number = by_test (number == 0) (marks_few count ((number - 1) / 3))
  where
    by_test : (test : Bool) → length (marks_of count ((number - 1) / 3)) ≤ count
        → length (if test then [] else mark_for ((number - 1) % 3 + 1) ∷ marks_of count ((number - 1) / 3)) ≤ suc count
    by_test true few = omega arith
    by_test false few = omega (arith, few)

end_back : (n : ℕ) (whole : Bool) → ((2 * n + end_number whole) / 2 ≡ n) × ((2 * n + end_number whole) % 2 ≡ end_number whole)
end_back n true = (omega arith, omega arith)
end_back n false = (omega arith, omega arith)

end_told : (whole : Bool) → (end_number whole == 1) ≡ whole
end_told true = refl
end_told false = refl

end_low : (whole : Bool) → end_number whole ≤ 1
end_low true = omega arith
end_low false = omega arith

pub pattern_back : (p : PatternV) → length p.marks ≤ 12 → pattern_of (pattern_number p) ≡ p
pattern_back p few =
    let parts = end_back (marks_number p.marks) p.whole in
    ap (λ n. record { marks = marks_of 12 n; whole = pattern_number p % 2 == 1 }) parts.0
    ∙ ap (λ l. record { marks = l; whole = pattern_number p % 2 == 1 }) (marks_back p.marks 12 few)
    ∙ ap (λ n. record { marks = p.marks; whole = n == 1 }) parts.1
    ∙ ap (λ b. record { marks = p.marks; whole = b }) (end_told p.whole)

pub is_number : (p : PatternV) → length p.marks ≤ 12 → IsNumber (pattern_number p)
is_number p few = ap pattern_number (pattern_back p few)

-- a number is known by its pattern
pub number_by : (number : ℕ) (p : PatternV) → length p.marks ≤ 12 → number ≡ pattern_number p → (pattern_of number ≡ p) × IsNumber number
number_by number p few is = (
  ap pattern_of is ∙ pattern_back p few,
  subst IsNumber (sym is) (is_number p few),
)

pub number_most : (number : ℕ) → IsNumber number → number ≤ 1594321
number_most number is =
    let few = number_low (marks_of 12 (number / 2)) 12 (marks_few 12 (number / 2)) in
    let end = end_low (number % 2 == 1) in
    omega (arith, few, end, is)

-- ---- cut

abbrev pub least : ℕ → ℕ
least zero = 0
least (suc size) = 3 * least size + 1

pub power_least : (size : ℕ) → 3 ^ size ≡ 2 * least size + 1
power_least zero = refl
power_least (suc size) = let one = pow-succ' 3 size in let before = power_least size in omega (arith, one, before)

short_low : (marks : List Mark) (size : ℕ) → length marks ≤ size → marks_number marks ≤ 3 * least size
short_low [] size few = omega arith
short_low (mark ∷ marks) zero few = absurd (omega arith)
short_low (mark ∷ marks) (suc size) few =
    let low = digit_low mark in let later = short_low marks size (omega arith) in omega (arith, low.1, later)

long_high : (marks : List Mark) (size : ℕ) → size < length marks → 3 * least size < marks_number marks
long_high [] size long = absurd (omega arith)
long_high (mark ∷ marks) zero long = let low = digit_low mark in omega (arith, low.0)
long_high (mark ∷ marks) (suc size) long =
    let low = digit_low mark in let later = long_high marks size (omega arith) in omega (arith, low.0, later)

record Parted (marks : List Mark) (size : ℕ) : Type 0 where
  first : ℕ
  later : ℕ
  all : marks_number marks ≡ least size + first + 3 ^ size * later
  taken : marks_number (take size marks) ≡ least size + first
  small : first < 3 ^ size

parted : (marks : List Mark) (size : ℕ) → size ≤ length marks → Parted marks size
parted marks zero long = record { first = 0; later = marks_number marks; all = omega arith; taken = refl; small = omega arith }
parted [] (suc size) long = absurd (omega arith)
parted (mark ∷ marks) (suc size) long =
    let low = digit_low mark in
    let own = parted marks size (omega arith) in
    let one = pow-succ' 3 size in
    let times : 3 ^ suc size * own.later ≡ 3 * (3 ^ size * own.later) = ap (λ n. n * own.later) one ∙ mul_assoc 3 (3 ^ size) own.later in
    record {
      first = 3 * own.first + (digit_of mark - 1);
      later = own.later;
      all = omega (arith, low.0, low.1, own.all, times);
      taken = omega (arith, low.0, low.1, own.taken);
      small = omega (arith, low.0, low.1, own.small, one);
    }

taken_is : (marks : List Mark) (size : ℕ) → size ≤ length marks
    → least size + (marks_number marks - least size) % 3 ^ size ≡ marks_number (take size marks)
taken_is marks size long =
    let own = parted marks size long in
    let turned : 3 ^ size * own.later ≡ own.later * 3 ^ size = mul_comm (3 ^ size) own.later in
    let without : marks_number marks - least size ≡ own.later * 3 ^ size + own.first = omega (arith, own.all, turned) in
    ap (λ n. least size + n % 3 ^ size) without
    ∙ ap (λ n. least size + n) (mod-mul-add own.later (3 ^ size) own.first own.small) ∙ sym own.taken

-- the number of a pattern has these two parts
pub number_parts : (number : ℕ) → IsNumber number
    → (number / 2 ≡ marks_number (pattern_of number).marks) × (number % 2 ≡ end_number (pattern_of number).whole)
number_parts number is =
    let parts = end_back (marks_number (pattern_of number).marks) (pattern_of number).whole in
    (ap (λ n. n / 2) (sym is) ∙ parts.0, ap (λ n. n % 2) (sym is) ∙ parts.1)

pub cut_short : (number room power half : ℕ) → IsNumber number → power ≡ 3 ^ room → half ≡ (power - 1) / 2
    → number / 2 ≤ 3 * half → pattern_of number ≡ cut_to room (pattern_of number)
cut_short number room power half is raised halved low =
    let p : PatternV = pattern_of number in
    let own = power_least room in
    let same : half ≡ least room = omega (arith, raised, halved, own) in
    let parts = number_parts number is in
    let test : nat_le (length p.marks) room ≡ true = by_size (nat_le (length p.marks) room) refl same parts.0 in
    sym (ap (λ (b : Bool). if b then p else record { marks = take room p.marks; whole = false }) test)
  where
    by_size : (test : Bool) → nat_le (length (pattern_of number).marks) room ≡ test → half ≡ least room
        → number / 2 ≡ marks_number (pattern_of number).marks → nat_le (length (pattern_of number).marks) room ≡ true
    by_size true told same part = told
    by_size false told same part =
        let more : room < length (pattern_of number).marks = grind (arith, nat_tests, told) in
        let high = long_high (pattern_of number).marks room more in
        absurd (omega (arith, high, same, part, low))

pub cut_long : (number room power half : ℕ) → IsNumber number → power ≡ 3 ^ room → half ≡ (power - 1) / 2 → room ≤ 12
    → 3 * half < number / 2
    → (pattern_of (2 * (half + (number / 2 - half) % power)) ≡ cut_to room (pattern_of number))
    × IsNumber (2 * (half + (number / 2 - half) % power))
cut_long number room power half is raised halved few high =
    let p : PatternV = pattern_of number in
    let cut : PatternV = record { marks = take room p.marks; whole = false } in
    let own = power_least room in
    let same : half ≡ least room = omega (arith, raised, halved, own) in
    let parts = number_parts number is in
    let more : room < length p.marks = by_size (nat_le (length p.marks) room) refl same parts.0 in
    let test : nat_le (length p.marks) room ≡ false = grind (arith, nat_tests, more) in
    let size : length (take room p.marks) ≡ room = take_size p.marks room (omega (arith, more)) in
    let taken = taken_is p.marks room (omega (arith, more)) in
    let marks : half + (number / 2 - half) % power ≡ marks_number (take room p.marks) =
    ap (λ h. h + (number / 2 - h) % power) same ∙ ap (λ n. least room + (n - least room) % power) parts.0
    ∙ ap (λ w. least room + (marks_number p.marks - least room) % w) raised ∙ taken in
    let told = number_by (2 * (half + (number / 2 - half) % power)) cut (omega (arith, size, few)) (omega (arith, marks)) in
    (told.0 ∙ sym (ap (λ (b : Bool). if b then p else cut) test), told.1)
  where
    by_size : (test : Bool) → nat_le (length (pattern_of number).marks) room ≡ test → half ≡ least room
        → number / 2 ≡ marks_number (pattern_of number).marks → room < length (pattern_of number).marks
    by_size true told same part =
        let less : length (pattern_of number).marks ≤ room = grind (arith, nat_tests, told) in
        let low = short_low (pattern_of number).marks room less in
        absurd (omega (arith, low, same, part, high))
    by_size false told same part = grind (arith, nat_tests, told)

-- ---- joined

joined_number : (first rest : List Mark) → marks_number (first ++ rest) ≡ marks_number first + 3 ^ length first * marks_number rest
joined_number [] rest = omega arith
joined_number (mark ∷ first) rest =
    let later = joined_number first rest in
    let one = pow-succ' 3 (length first) in
    let times : 3 ^ suc (length first) * marks_number rest ≡ 3 * (3 ^ length first * marks_number rest) =
    ap (λ n. n * marks_number rest) one ∙ mul_assoc 3 (3 ^ length first) (marks_number rest) in
    omega (arith, later, times)

cut_low : (q : PatternV) (room : ℕ) → length (cut_to room q).marks ≤ room
cut_low q room = by_test (nat_le (length q.marks) room) refl
  where
    by_test : (test : Bool) → nat_le (length q.marks) room ≡ test
        → length (if test then q else record { marks = take room q.marks; whole = false }).marks ≤ room
    by_test true told = grind (arith, nat_tests, told)
    by_test false told = let more : room < length q.marks = grind (arith, nat_tests, told) in
        let size = take_size q.marks room (omega (arith, more)) in omega (arith, size)

-- where the first pattern has so many marks that there is this room, and the other is cut to it
pub record Joint (first : PatternV) (own cut power : ℕ) (rest : PatternV) : Type 0 where
  pub product : power * (cut / 2) ≤ 1594321
  pub sum : own / 2 + power * (cut / 2) ≤ 1594321
  pub double : 2 * (own / 2 + power * (cut / 2)) ≤ 1594321
  pub both : 2 * (own / 2 + power * (cut / 2)) + cut % 2 ≤ 1594321
  pub pattern : pattern_of (2 * (own / 2 + power * (cut / 2)) + cut % 2) ≡ shortened (first.marks ++ rest.marks) rest.whole
  pub number : IsNumber (2 * (own / 2 + power * (cut / 2)) + cut % 2)

parts_low : (x y z : ℕ) → 2 * (x + y) + z ≤ 1594321 → (y ≤ 1594321) × (x + y ≤ 1594321) × (2 * (x + y) ≤ 1594321)
parts_low x y z low = (omega arith, omega arith, omega arith)

pub joint : (first rest : PatternV) (own cut power size : ℕ) → own ≡ pattern_number first → size ≡ length first.marks → size ≤ 12
    → power ≡ 3 ^ size → IsNumber cut → pattern_of cut ≡ cut_to (12 - size) rest → Joint first own cut power rest
joint first rest own cut power size own_is size_is few raised is cut_is =
    let behind : PatternV = pattern_of cut in
    let both : PatternV = record { marks = first.marks ++ behind.marks; whole = behind.whole } in
    let parts = number_parts cut is in
    let own_parts = end_back (marks_number first.marks) first.whole in
    let own_half : own / 2 ≡ marks_number first.marks = ap (λ n. n / 2) own_is ∙ own_parts.0 in
    let short : length behind.marks ≤ 12 - size = ap_low (cut_low rest (12 - size)) in
    let length_is : length (first.marks ++ behind.marks) ≤ 12 = let all = length-append first.marks behind.marks in omega (arith, all, short, size_is, few) in
    let product : power * (cut / 2) ≡ 3 ^ length first.marks * marks_number behind.marks =
    ap (λ n. power * n) parts.0 ∙ ap (λ w. w * marks_number behind.marks) (raised ∙ ap (λ n. 3 ^ n) size_is) in
    let marks = joined_number first.marks behind.marks in
    let whole : 2 * (own / 2 + power * (cut / 2)) + cut % 2 ≡ pattern_number both = omega (arith, own_half, product, marks, parts.1) in
    let told = number_by (2 * (own / 2 + power * (cut / 2)) + cut % 2) both length_is whole in
    let fits : nat_le (length (first.marks ++ behind.marks)) 12 ≡ true = grind (arith, nat_tests, length_is) in
    let as_is : both ≡ shortened (first.marks ++ behind.marks) behind.whole =
    sym (ap (λ (b : Bool). if b then both else record { marks = take 12 (first.marks ++ behind.marks); whole = false }) fits) in
    let most = number_most (2 * (own / 2 + power * (cut / 2)) + cut % 2) told.1 in
    let low = parts_low (own / 2) (power * (cut / 2)) (cut % 2) most in
    record {
      product = low.0;
      sum = low.1;
      double = low.2;
      both = most;
      pattern =
          told.0 ∙ as_is ∙ ap (λ (q : PatternV). shortened (first.marks ++ q.marks) q.whole) cut_is
          ∙ cut_joins first rest (12 - size) (omega (arith, size_is, few));
      number = told.1;
    }
  where
    ap_low : length (cut_to (12 - size) rest).marks ≤ 12 - size → length (pattern_of cut).marks ≤ 12 - size
    ap_low low = subst (λ (q : PatternV). length q.marks ≤ 12 - size) (sym cut_is) low

-- ---- lists of numbers

mapped : (numbers : List ℕ) (p : PatternV) → Contains (map pattern_of numbers) p → (n : ℕ) × (Contains numbers n) × (p ≡ pattern_of n)
mapped numbers p h =
    let size = length-map numbers pattern_of in
    let own = item_at numbers h.0 (omega (arith, h.1, size)) in
    let same : slice_get (map pattern_of numbers) h.0 ≡ Some (pattern_of own.0) =
    slice_get-map pattern_of numbers h.0 ∙ ap (λ x. option_map pattern_of x) own.1 in
    let there = contained_at (map pattern_of numbers) p h in
    (own.0, at_contained numbers h.0 own.0 own.1, cc)

pub maps : (numbers : List ℕ) (n : ℕ) → Contains numbers n → Contains (map pattern_of numbers) (pattern_of n)
maps numbers n h = at_contained (map pattern_of numbers) h.0 (pattern_of n)
    (slice_get-map pattern_of numbers h.0 ∙ ap (λ x. option_map pattern_of x) (contained_at numbers n h))

pub maps_at : (numbers : List ℕ) (k n : ℕ) → slice_get numbers k ≡ Some n → slice_get (map pattern_of numbers) k ≡ Some (pattern_of n)
maps_at numbers k n at = slice_get-map pattern_of numbers k ∙ ap (λ x. option_map pattern_of x) at

-- one number more in a list is one pattern more
pub as_patterns : (old new : List ℕ) (number : ℕ) → ((n : ℕ) → Contains new n ↔ (Contains old n ⊎ (n ≡ number)))
    → (p : PatternV) → Contains (map pattern_of new) p ↔ (Contains (map pattern_of old) p ⊎ (p ≡ pattern_of number))
as_patterns old new number told p = (to, back)
  where
    to : Contains (map pattern_of new) p → Contains (map pattern_of old) p ⊎ (p ≡ pattern_of number)
    to h = let own = mapped new p h in elim ((told own.0).0 own.1) [
      | inl there ↦ inl (subst (λ q. Contains (map pattern_of old) q) (sym own.2) (maps old own.0 there))
      | inr is ↦ inr (own.2 ∙ ap pattern_of is)
    ]

    back : Contains (map pattern_of old) p ⊎ (p ≡ pattern_of number) → Contains (map pattern_of new) p
    back (inl h) = (let own = mapped old p h in
        subst (λ q. Contains (map pattern_of new) q) (sym own.2) (maps new own.0 ((told own.0).1 (inl own.1))))
    back (inr is) = subst (λ q. Contains (map pattern_of new) q) (sym is) (maps new number ((told number).1 (inr refl)))

-- and they stay numbers
pub still_numbers : (old new : List ℕ) (number : ℕ) → ((n : ℕ) → Contains new n ↔ (Contains old n ⊎ (n ≡ number)))
    → AreNumbers old → IsNumber number → AreNumbers new
still_numbers old new number told are is n there = elim ((told n).0 there) [
  | inl h ↦ are n h
  | inr same ↦ subst IsNumber (sym same) is
]

-- ---- a table and marks

equal : (n x : ℕ) → nat_eq n x ≡ true → n ≡ x
equal n x test = grind (arith, nat_tests)

pub inserted : (few marks : List ℕ) (number n : ℕ)
    → Contains (insert_key nat_eq few number ++ marks) n ↔ (Contains (few ++ marks) n ⊎ (n ≡ number))
inserted few marks number n = by_test (list_any (nat_eq number) few) refl
  where
    by_test : (test : Bool) → list_any (nat_eq number) few ≡ test
        → Contains ((if test then few else few ++ number ∷ []) ++ marks) n ↔ (Contains (few ++ marks) n ⊎ (n ≡ number))
    by_test true known = (
      (λ h. inl h),
      (λ h. elim h [
        | inl there ↦ there
        | inr same ↦
            let f = found (nat_eq number) few known in
            let is : n ≡ f.item = same ∙ equal number f.item f.passes in
            Contains-append_left few marks n (subst (λ x. Contains few x) (sym is) f.there)
      ]),
    )
    by_test false known = (
      (λ h. elim (Contains-append_cases (few ++ number ∷ []) marks n h) [
        | inl there ↦ elim ((one_more few number n).0 there) [
          | inl old ↦ inl (Contains-append_left few marks n old)
          | inr same ↦ inr same
        ]
        | inr there ↦ inl (Contains-append_right few marks n there)
      ]),
      (λ h. elim h [
        | inl there ↦ elim (Contains-append_cases few marks n there) [
          | inl old ↦ Contains-append_left (few ++ number ∷ []) marks n ((one_more few number n).1 (inl old))
          | inr old ↦ Contains-append_right (few ++ number ∷ []) marks n old
        ]
        | inr same ↦ Contains-append_left (few ++ number ∷ []) marks n ((one_more few number n).1 (inr same))
      ]),
    )

pub in_table : (few : List ℕ) (number : ℕ) → IsTrue (list_any (λ n. nat_eq number n) few) → Contains few number
in_table few number known =
    let f = found (λ n. nat_eq number n) few known in
    subst (λ x. Contains few x) (sym (equal number f.item f.passes)) f.there

-- behind the same table
pub behind_few : (few old new : List ℕ) (number n : ℕ) → Contains new n ↔ (Contains old n ⊎ (n ≡ number))
    → Contains (few ++ new) n ↔ (Contains (few ++ old) n ⊎ (n ≡ number))
behind_few few old new number n told = (
  (λ h. elim (Contains-append_cases few new n h) [
    | inl there ↦ inl (Contains-append_left few old n there)
    | inr there ↦ elim (told.0 there) [ inl before ↦ inl (Contains-append_right few old n before) | inr same ↦ inr same ]
  ]),
  (λ h. elim h [
    | inl there ↦ elim (Contains-append_cases few old n there) [
      | inl before ↦ Contains-append_left few new n before
      | inr before ↦ Contains-append_right few new n (told.1 (inl before))
    ]
    | inr same ↦ Contains-append_right few new n (told.1 (inr same))
  ]),
)

unmarked : (at count : ℕ) → marked at (replicate count false) ≡ []
unmarked at zero = refl
unmarked at (suc count) = unmarked (suc at) count

marks_grow : (at : ℕ) (marks : List Bool) (count : ℕ) → marked at (marks ++ replicate count false) ≡ marked at marks
marks_grow at [] count = unmarked at count
marks_grow at (true ∷ marks) count = ap (λ l. at ∷ l) (marks_grow (suc at) marks count)
marks_grow at (false ∷ marks) count = marks_grow (suc at) marks count

one_before : (x : ℕ) (xs : List ℕ) (n : ℕ) → Contains (x ∷ xs) n ↔ (Contains xs n ⊎ (n ≡ x))
one_before x xs n = (to, back)
  where
    to : Contains (x ∷ xs) n → Contains xs n ⊎ (n ≡ x)
    to h = elim (Contains-append_cases (x ∷ []) xs n h) [
      | inl own ↦ elim ((one_more [] x n).0 own) [ inl none ↦ absurd (omega (arith, none.1)) | inr same ↦ inr same ]
      | inr there ↦ inl there
    ]

    back : Contains xs n ⊎ (n ≡ x) → Contains (x ∷ xs) n
    back (inl there) = Contains-append_right (x ∷ []) xs n there
    back (inr same) = Contains-append_left (x ∷ []) xs n ((one_more [] x n).1 (inr same))

marks_set : (at : ℕ) (marks : List Bool) (k n : ℕ) → k < length marks
    → Contains (marked at (set marks k true)) n ↔ (Contains (marked at marks) n ⊎ (n ≡ at + k))
marks_set at [] k n less = absurd (omega arith)
marks_set at (true ∷ marks) zero n less =
    let here : at + 0 ≡ at = omega arith in (
      (λ h. inl h),
      (λ h. elim h [ inl there ↦ there | inr same ↦ (one_before at (marked (suc at) marks) n).1 (inr (same ∙ here)) ]),
    )
marks_set at (false ∷ marks) zero n less =
    let here : at + 0 ≡ at = omega arith in
    let own = one_before at (marked (suc at) marks) n in (
      (λ h. elim (own.0 h) [ inl there ↦ inl there | inr same ↦ inr (same ∙ sym here) ]),
      (λ h. elim h [ inl there ↦ own.1 (inl there) | inr same ↦ own.1 (inr (same ∙ here)) ]),
    )
marks_set at (true ∷ marks) (suc k) n less =
    let later = marks_set (suc at) marks k n (omega arith) in
    let place : suc at + k ≡ at + suc k = omega arith in
    let new = one_before at (marked (suc at) (set marks k true)) n in
    let old = one_before at (marked (suc at) marks) n in (
      (λ h. elim (new.0 h) [
        | inl there ↦ elim (later.0 there) [ inl before ↦ inl (old.1 (inl before)) | inr same ↦ inr (same ∙ place) ]
        | inr same ↦ inl (old.1 (inr same))
      ]),
      (λ h. elim h [
        | inl there ↦ elim (old.0 there) [ inl before ↦ new.1 (inl (later.1 (inl before))) | inr same ↦ new.1 (inr same) ]
        | inr same ↦ new.1 (inl (later.1 (inr (same ∙ sym place))))
      ]),
    )
marks_set at (false ∷ marks) (suc k) n less =
    let later = marks_set (suc at) marks k n (omega arith) in
    let place : suc at + k ≡ at + suc k = omega arith in (
      (λ h. elim (later.0 h) [ inl before ↦ inl before | inr same ↦ inr (same ∙ place) ]),
      (λ h. elim h [ inl before ↦ later.1 (inl before) | inr same ↦ later.1 (inr (same ∙ sym place)) ]),
    )

marked_at : (at : ℕ) (marks : List Bool) (k : ℕ) → slice_get marks k ≡ Some true → Contains (marked at marks) (at + k)
marked_at at [] k there = absurd (cc)
marked_at at (true ∷ marks) zero there = (one_before at (marked (suc at) marks) (at + 0)).1 (inr (omega arith))
marked_at at (false ∷ marks) zero there = absurd (cc)
marked_at at (true ∷ marks) (suc k) there =
    let place : suc at + k ≡ at + suc k = omega arith in
    (one_before at (marked (suc at) marks) (at + suc k)).1 (inl (subst (λ n. Contains (marked (suc at) marks) n) place
    (marked_at (suc at) marks k there)))
marked_at at (false ∷ marks) (suc k) there =
    let place : suc at + k ≡ at + suc k = omega arith in
    subst (λ n. Contains (marked (suc at) marks) n) place (marked_at (suc at) marks k there)

-- from the first place on
pub mark_set : (marks : List Bool) (k n : ℕ) → k < length marks
    → Contains (marked 0 (set marks k true)) n ↔ (Contains (marked 0 marks) n ⊎ (n ≡ k))
mark_set marks k n less =
    let here : 0 + k ≡ k = omega arith in
    subst (λ m. Contains (marked 0 (set marks k true)) n ↔ (Contains (marked 0 marks) n ⊎ (n ≡ m))) here
    (marks_set 0 marks k n less)

pub mark_at : (marks : List Bool) (k : ℕ) → slice_get marks k ≡ Some true → Contains (marked 0 marks) k
mark_at marks k there =
    let here : 0 + k ≡ k = omega arith in subst (λ m. Contains (marked 0 marks) m) here (marked_at 0 marks k there)

pub marks_resized : (old new : List Bool) (size more : ℕ) → length old ≤ size → new ≡ take size old ++ replicate more false
    → marked 0 new ≡ marked 0 old
marks_resized old new size more few grown =
    ap (λ l. marked 0 l) grown ∙ ap (λ l. marked 0 (l ++ replicate more false)) (take_whole old size few)
    ∙ marks_grow 0 old more

-- one place more
marked_behind : (at : ℕ) (xs ys : List Bool) → marked at (xs ++ ys) ≡ marked at xs ++ marked (at + length xs) ys
marked_behind at [] ys = let none : at + 0 ≡ at = omega arith in ap (λ k. marked k ys) (sym none)
marked_behind at (true ∷ xs) ys =
    let place : suc at + length xs ≡ at + suc (length xs) = omega arith in
    ap (λ l. at ∷ l) (marked_behind (suc at) xs ys ∙ ap (λ k. marked (suc at) xs ++ marked k ys) place)
marked_behind at (false ∷ xs) ys =
    let place : suc at + length xs ≡ at + suc (length xs) = omega arith in
    marked_behind (suc at) xs ys ∙ ap (λ k. marked (suc at) xs ++ marked k ys) place

pub marked_more : (marks : List Bool) (k : ℕ) (mark : Bool) → slice_get marks k ≡ Some mark
    → marked 0 (take (k + 1) marks) ≡ marked 0 (take k marks) ++ marked k (mark ∷ [])
marked_more marks k mark there =
    let inside = slice_get_within marks k mark there in
    let own = take_size marks k (omega (arith, inside)) in
    let size : 0 + length (take k marks) ≡ k = omega (arith, own) in
    ap (λ l. marked 0 l) (take_part marks k mark there) ∙ marked_behind 0 (take k marks) (mark ∷ [])
    ∙ ap (λ n. marked 0 (take k marks) ++ marked n (mark ∷ [])) size

-- where a number was marked, or could not be
pub marked_numbers : {T E : Type 0} (r : Result T E) (few old new : List ℕ) (number : ℕ)
    → OnOk r ((n : ℕ) → Contains new n ↔ (Contains old n ⊎ (n ≡ number))) → OnErr r (new ≡ old)
    → AreNumbers (few ++ old) → IsNumber number → AreNumbers (few ++ new)
marked_numbers (Ok x) few old new number told same are is =
    still_numbers (few ++ old) (few ++ new) number (λ n. behind_few few old new number n (told n)) are is
marked_numbers (Err e) few old new number told same are is = subst (λ (l : List ℕ). AreNumbers (few ++ l)) (sym same) are
