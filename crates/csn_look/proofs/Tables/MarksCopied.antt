-- Marks that are copied, as many at once as stand in one number.
use Rattle.std.proofs.Common.{◌≡◌, ℕ, ◌+◌, ◌-◌, ◌*◌, ◌/◌, ◌%◌, ◌^◌, ◌<◌, ◌≤◌, Bool, true, false, ◌||◌, List, length}
use Rattle.std.proofs.Common.{get_or, refl, sym, ap, ◌∙◌, arith, inl, inr}
use Rattle.std.specs.Prelude.{bit_or, ◌==◌, slice_set}
use Rattle.std.specs.Int.{bit_at}
use lib.Bits.{bit_and}
use Prim.Native.Nat.{min}
use Rattle.std.proofs.lemmas.Bool.{cases_lt, cases_eq}
use Rattle.std.proofs.lemmas.Nat.{and_mask, mod_below, pow_pos, shl_whole, shr-shr}
use Rattle.std.proofs.lemmas.Nat.Bits.{bit_at_and, bit_at_ones, bit_at_above, bit_at_cat_low, bit_at_cat_high, bit_at-lt, bit_at-zero, ones_shr}
use Rattle.csn_look.specs.KeyMarks.{is_marked}
use Rattle.csn_look.specs.KeySteps.{Copies}
use Rattle.csn_look.proofs.Tables.MarkFacts.{word_joined, word_other}

-- the bits of a number that is shifted up
pub bit_low : (a k i : ℕ) → i < k → bit_at (a * 2 ^ k) i ≡ 0
bit_low a k i low =
    let e : a * 2 ^ k ≡ a * 2 ^ k + 0 = omega arith in
    ap (λ n. bit_at n i) e ∙ bit_at_cat_low a k 0 i low ∙ bit_at-zero i

pub bit_high : (a k i : ℕ) → k ≤ i → bit_at (a * 2 ^ k) i ≡ bit_at a (i - k)
bit_high a k i high =
    let e : a * 2 ^ k ≡ a * 2 ^ k + 0 = omega arith in
    ap (λ n. bit_at n i) e ∙ bit_at_cat_high a k 0 i (pow_pos k) high

-- and down
pub bit_down : (a k i : ℕ) → bit_at (a / 2 ^ k) i ≡ bit_at a (k + i)
bit_down a k i = ap (λ n. n % 2) (shr-shr a k i)

or_none : (b c : Bool) → c ≡ false → (b || c) ≡ b
or_none true c e = refl
or_none false c e = e

-- the lowest bits of a number
module _ (number run : ℕ) (some : 0 < run) (few : run ≤ 64) where
  abbrev pub lowest : ℕ
  lowest = bit_and number (18446744073709551615 / 2 ^ (64 - run))

  lowest_is : lowest ≡ bit_and number (2 ^ run - 1)
  lowest_is =
      let back : 64 - (64 - run) ≡ run = omega arith in
      ap (λ m. bit_and number m) (ones_shr 64 (64 - run) (omega arith) ∙ ap (λ k. 2 ^ k - 1) back)

  lowest_small : lowest < 2 ^ run
  lowest_small = rw (lowest_is, and_mask) (mod_below number (2 ^ run) (pow_pos run))

  lowest_inside : (i : ℕ) → i < run → bit_at lowest i ≡ bit_at number i
  lowest_inside i low =
      ap (λ n. bit_at n i) lowest_is ∙ bit_at_and number (2 ^ run - 1) i ∙ ap (λ m. min (bit_at number i) m) (bit_at_ones run i low)
      ∙ least (bit_at number i) (bit_at-lt number i)
    where
      least : (b : ℕ) → b < 2 → min b 1 ≡ b
      least b small = omega arith

  lowest_past : (i : ℕ) → run ≤ i → bit_at lowest i ≡ 0
  lowest_past i high = bit_at_above lowest run i lowest_small high

-- one run of marks
pub run_copied :
    (marks others : List ℕ) (to from run word : ℕ) → word ≡ get_or others (from / 64) 0 → 0 < run → to % 64 + run ≤ 64
    → from % 64 + run ≤ 64 → to / 64 < length marks
    → Copies marks
    (slice_set marks (to / 64)
    (bit_or (get_or marks (to / 64) 0) (bit_and (word / 2 ^ (from % 64)) (18446744073709551615 / 2 ^ (64 - run))
    * 2 ^ (to % 64) % 18446744073709551616))) others to from run
run_copied marks others to from run word is some here there within = record {
  inside = λ k low.
      let same : (to + k) / 64 ≡ to / 64 = omega arith in
      let place : (to + k) % 64 ≡ to % 64 + k = omega arith in
      let away : to % 64 + k - to % 64 ≡ k = omega arith in
      let other : (from + k) / 64 ≡ from / 64 = omega arith in
      let other_place : (from + k) % 64 ≡ from % 64 + k = omega arith in
      word_joined marks (to / 64) added (to + k) within same
      ∙ ap (λ b. is_marked marks (to + k) || (b == 1))
      (ap (λ i. bit_at added i) place ∙ ap (λ n. bit_at n (to % 64 + k)) whole ∙ bit_high bits (to % 64) (to % 64 + k)
      (omega arith) ∙ ap (λ i. bit_at bits i) away
      ∙ lowest_inside (word / 2 ^ (from % 64)) run some few k low ∙ bit_down word (from % 64) k ∙ ap (λ w. bit_at w (from % 64 + k)) is
      ∙ ap (λ i. bit_at (get_or others (from / 64) 0) i) (sym other_place) ∙ ap (λ w. bit_at (get_or others w 0) ((from + k) % 64)) (sym other));
  before = λ at low. elim (cases_eq (at / 64) (to / 64)) [
    | inr apart ↦ word_other marks (to / 64) _ at apart
    | inl same ↦
        word_joined marks (to / 64) added at within same
        ∙ or_none (is_marked marks at) (bit_at added (at % 64) == 1)
        (ap (λ b. b == 1) (ap (λ n. bit_at n (at % 64)) whole ∙ bit_low bits (to % 64) (at % 64) (omega arith)))
  ];
  behind = λ at high. elim (cases_eq (at / 64) (to / 64)) [
    | inr apart ↦ word_other marks (to / 64) _ at apart
    | inl same ↦
        word_joined marks (to / 64) added at within same
        ∙ or_none (is_marked marks at) (bit_at added (at % 64) == 1)
        (ap (λ b. b == 1) (ap (λ n. bit_at n (at % 64)) whole ∙ bit_high bits (to % 64) (at % 64) (omega arith)
        ∙ lowest_past (word / 2 ^ (from % 64)) run some few (at % 64 - to % 64) (omega arith)))
  ];
}
  where
    few : run ≤ 64
    few = omega arith

    bits : ℕ
    bits = bit_and (word / 2 ^ (from % 64)) (18446744073709551615 / 2 ^ (64 - run))

    added : ℕ
    added = bits * 2 ^ (to % 64) % 18446744073709551616

    whole : added ≡ bits * 2 ^ (to % 64)
    whole = shl_whole bits run (to % 64) 64 (lowest_small (word / 2 ^ (from % 64)) run some few) (omega arith)

-- one run after another
pub copied_none : (marks others : List ℕ) (to from : ℕ) → Copies marks marks others to from 0
copied_none marks others to from = record {
  inside = λ k low. absurd (omega arith);
  before = λ at low. refl;
  behind = λ at high. refl;
}

pub copied_more :
    (old mid new others : List ℕ) (to from done run : ℕ) → Copies old mid others to from done → Copies mid new others (to + done) (from + done) run
    → Copies old new others to from (done + run)
copied_more old mid new others to from done run p q = record {
  inside = λ k low. elim (cases_lt k done) [
    | inl early ↦ q.before (to + k) (omega arith) ∙ p.inside k early
    | inr late ↦
        let j = k - done in
        let mine : to + done + j ≡ to + k = omega arith in
        let its : from + done + j ≡ from + k = omega arith in
        ap (λ n. is_marked new n) (sym mine) ∙ q.inside j (omega arith)
        ∙ ap (λ n. is_marked mid n || is_marked others (from + done + j)) mine ∙ ap (λ n. is_marked mid (to + k) || is_marked others n) its
        ∙ ap (λ b. b || is_marked others (from + k)) (p.behind (to + k) (omega arith))
  ];
  before = λ at low. q.before at (omega arith) ∙ p.before at low;
  behind = λ at high. q.behind at (omega arith) ∙ p.behind at (omega arith);
}
