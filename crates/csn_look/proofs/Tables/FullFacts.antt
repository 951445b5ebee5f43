-- Words behind which all words of one size are keys.
use Rattle.std.proofs.Common.{◌≡◌, ℕ, ◌+◌, ◌-◌, ◌*◌, ◌/◌, ◌%◌, ◌^◌, ◌<◌, ◌≤◌, ◌≢◌, ◌⊎◌, ◌↔◌, inl, inr, Bool, true}
use Rattle.std.proofs.Common.{false, not, ◌||◌, List, [], ◌∷◌, ◌++◌, length, get_or, IsTrue, refl, sym, ap, ◌∙◌}
use Rattle.std.proofs.Common.{subst, arith, length-append}
use Rattle.std.specs.Prelude.{bit_or, ◌==◌}
use Rattle.std.specs.Int.{bit_at, bit_not, w64}
use Rattle.std.proofs.lemmas.Bool.Decides.{nat_tests}
use Rattle.std.proofs.lemmas.Nat.Bits.{bit_at-lt, bit_at_not, bit_at_above}
use Rattle.std.proofs.lemmas.Nat.{pow_pos, pow-add}
use Rattle.std.proofs.Math.Nat.{div-lt_iff_lt-mul, mod-eq_of_lt, mul-le-mul_left, mul-le-mul_right, pow-le-pow_right}
use Rattle.csn_bits.specs.Numbers.{number_of}
use Rattle.csn_bits.proofs.NumberFacts.{number_of-lt}
use Rattle.csn_look.specs.KeyMarks.{IsWord, is_marked, place_of, has_key, IsKeyOf, StartsKey}
use Rattle.csn_look.specs.KeyTables.{IsKeyTable}
use Rattle.csn_look.specs.Full.{is_key_at, is_sought, sought_against, IsOther, AreNoKeys, IsFull, IsFullAt}
use Rattle.csn_look.proofs.Basics.Below.{below_or}
use Rattle.csn_look.proofs.Basics.Places.{place_of-append, Numbered, numbered}
use Rattle.csn_look.proofs.Tables.KeyMarkFacts.{key_told, starts_told}
use Rattle.csn_look.proofs.Tables.MarkFacts.{bit_of_either}
use Rattle.csn_look.proofs.Tables.Products.{word_join}
use Rattle.csn_look.proofs.Tables.StartsBetween.{mark_is}

-- the keys among 64 words, as one number
pub keys_told : (marks : List ℕ) (at k : ℕ) → k < 64 → (bit_at (bit_or (get_or marks at 0) (get_or marks (128 + at) 0)) k == 1) ≡ is_key_at marks (64 * at + k)
keys_told marks at k small =
    let one = get_or marks at 0 in
    let two = get_or marks (128 + at) 0 in
    bit_of_either one two k
    ∙ ap (λ x. x || (bit_at two k == 1)) (mark_is marks at k (64 * at + k) (omega arith) (omega arith))
    ∙ ap (λ x. is_marked marks (64 * at + k) || x) (mark_is marks (128 + at) k (8192 + (64 * at + k)) (omega arith) (omega arith))

-- and those that are none
pub others_told : (n k : ℕ) (is : Bool) → n < 2 ^ 64 → k < 64 → (bit_at n k == 1) ≡ is → (bit_at (bit_not w64 n) k == 1) ≡ not is
others_told n k is small low e = by (bit_at n k) (bit_at (bit_not w64 n) k) (bit_at-lt n k) (bit_at_not w64 n k small low) ∙ ap (λ b. not b) e
  where
    by : (a b : ℕ) → a < 2 → b ≡ 1 - a → (b == 1) ≡ not (a == 1)
    by a b few f = grind (arith, nat_tests)

-- ---- places one after another

-- what is sought and not there is as wanted, and the other way round
pub as_wanted : (keys : Bool) (marks : List ℕ) (at : ℕ) → is_sought (sought_against keys) marks at ≡ false → is_key_at marks at ≡ keys
as_wanted true marks at e = back (is_key_at marks at) e
  where
    back : (is : Bool) → not is ≡ false → is ≡ true
    back true e = refl
    back false e = absurd (cc)
as_wanted false marks at e = e

pub not_wanted : (keys : Bool) (marks : List ℕ) (at : ℕ) → is_sought (sought_against keys) marks at ≡ true → is_key_at marks at ≡ not keys
not_wanted true marks at e = back (is_key_at marks at) e
  where
    back : (is : Bool) → not is ≡ true → is ≡ false
    back true e = absurd (cc)
    back false e = refl
not_wanted false marks at e = e

module _ (sought : ℕ → Bool) (number at : ℕ) (told : (k : ℕ) → k < 64 → (bit_at number k == 1) ≡ sought (64 * (at / 64) + k)) where
  here : (k : ℕ) → at / 64 ≡ k / 64 → (bit_at number (k % 64) == 1) ≡ sought k
  here k same =
      let place : 64 * (at / 64) + k % 64 ≡ k = omega (arith, same) in
      told (k % 64) (omega arith) ∙ ap sought place

  unset : (b : ℕ) → b ≡ 0 → (b == 1) ≡ false
  unset b e = ap (λ n. n == 1) e

  set : (b : ℕ) → b ≡ 1 → (b == 1) ≡ true
  set b e = ap (λ n. n == 1) e

  -- where nothing is left of the number, no place up to its end is sought
  pub rest_unsought : number / 2 ^ (at % 64) ≡ 0 → (k : ℕ) → at ≤ k → k < 64 * (at / 64 + 1) → sought k ≡ false
  rest_unsought none k low high =
      let few : number / 2 ^ (at % 64) < 1 = omega (arith, none) in
      let small : number < 2 ^ (at % 64) = omega (arith, (div-lt_iff_lt-mul {k = 2 ^ (at % 64)} {x = number} {y = 1} (pow_pos (at % 64))).0 few) in
      let same : at / 64 ≡ k / 64 = omega arith in
      let bit : bit_at number (k % 64) ≡ 0 = bit_at_above number (at % 64) (k % 64) small (omega arith) in
      sym (here k same) ∙ unset (bit_at number (k % 64)) bit

  -- and whether this one is
  pub this_unsought : number / 2 ^ (at % 64) % 2 ≢ 1 → sought at ≡ false
  this_unsought none =
      let bit : bit_at number (at % 64) ≡ 0 = zero_or (bit_at number (at % 64)) (bit_at-lt number (at % 64)) none in
      sym (here at refl) ∙ unset (bit_at number (at % 64)) bit
    where
      zero_or : (b : ℕ) → b < 2 → b ≢ 1 → b ≡ 0
      zero_or b few not_one = omega (arith, not_one)

  pub this_sought : number / 2 ^ (at % 64) % 2 ≡ 1 → sought at ≡ true
  this_sought one = sym (here at refl) ∙ set (bit_at number (at % 64)) one

-- ---- the places of words that go on by so many bits

pub record LevelAt (place more first end : ℕ) : Type 0 where
  pub first_is : first ≡ place * 2 ^ more
  pub end_is : end ≡ place * 2 ^ more + 2 ^ more
  pub order : first ≤ end
  pub within : end ≤ 8192

pub level_at : (place most more : ℕ) → (place + 1) * 2 ^ most ≤ 8192 → more ≤ most
    → LevelAt place more (place * 2 ^ more % 2 ^ 64) (place * 2 ^ more % 2 ^ 64 + 1 * 2 ^ more % 2 ^ 64)
level_at place most more room few =
    let power : 2 ^ more ≤ 2 ^ most = pow-le-pow_right {n = 2} (omega arith) few in
    let times : (place + 1) * 2 ^ more ≤ (place + 1) * 2 ^ most = mul-le-mul_left (place + 1) power in
    let next : (place + 1) * 2 ^ more ≡ place * 2 ^ more + 2 ^ more = omega arith in
    let first : place * 2 ^ more % 2 ^ 64 ≡ place * 2 ^ more = mod-eq_of_lt (omega (arith, room, times, next)) in
    let count : 1 * 2 ^ more % 2 ^ 64 ≡ 2 ^ more = mod-eq_of_lt (omega (arith, room, times, next)) ∙ omega arith in
    record { first_is = first; end_is = omega (arith, first, count); order = omega arith; within = omega (arith, first, count, room, times, next) }

-- there is room for them where the words are short enough
pub room_at : (place len more : ℕ) → place < 2 ^ (len + 1) → len + more ≤ 12 → (place + 1) * 2 ^ more ≤ 8192
room_at place len more small short =
    let most : place + 1 ≤ 2 ^ (len + 1) = omega (arith, small) in
    let times : (place + 1) * 2 ^ more ≤ 2 ^ (len + 1) * 2 ^ more = mul-le-mul_right (2 ^ more) most in
    let power : 2 ^ (len + 1 + more) ≡ 2 ^ (len + 1) * 2 ^ more = pow-add 2 (len + 1) more in
    let few : len + 1 + more ≤ 13 = omega (arith, short) in
    let whole : 2 ^ (len + 1 + more) ≤ 2 ^ 13 = pow-le-pow_right {n = 2} (omega arith) few in
    omega (arith, times, power, whole)

-- ---- the words with these places

pub goes_to : (word back : List ℕ) (place : ℕ) → place_of word ≡ place → place_of (word ++ back) ≡ place * 2 ^ length back + number_of back
goes_to word back place here = place_of-append word back ∙ ap (λ n. n * 2 ^ length back + number_of back) here

-- where a word starts no key, no word that goes on from it by zeros is one
pub none_on : (marks word : List ℕ) (at many_more : ℕ) → IsKeyTable marks → IsWord word → place_of word ≡ at
    → is_marked marks (16384 + at) ≡ false → 0 < many_more → length word + many_more ≤ 12
    → is_key_at marks (at * 2 ^ many_more) ≡ false
none_on marks word at many_more table is here unmarked some short = by (is_key_at marks (at * 2 ^ many_more)) refl
  where
    n : Numbered many_more 0
    n = numbered many_more 0 (pow_pos many_more)

    place : place_of (word ++ n.word) ≡ at * 2 ^ many_more
    place = goes_to word n.word at here ∙ ap (λ k. at * 2 ^ k + number_of n.word) n.many ∙ ap (λ k. at * 2 ^ many_more + k) n.writes ∙ omega arith

    whole : IsWord (word ++ n.word)
    whole = word_join word n.word is n.bits (omega (arith, n.many, short))

    starts : (back : List ℕ) → back ≡ n.word → IsKeyOf marks (word ++ n.word) → StartsKey marks word
    starts [] e key = let size = ap length e in absurd (omega (arith, size, n.many, some))
    starts (x ∷ back) e key =
        let same : word ++ n.word ≡ word ++ x ∷ back = ap (λ l. word ++ l) (sym e) in
        record {
          next = x;
          back = back;
          whole = key.0;
          word = subst (λ (l : List ℕ). IsWord l) same whole;
          key = subst (λ (l : List ℕ). IsTrue (has_key marks l key.0)) same key.1;
        }

    by : (is_key : Bool) → is_key_at marks (at * 2 ^ many_more) ≡ is_key → is_key_at marks (at * 2 ^ many_more) ≡ false
    by false e = e
    by true e =
        let key = (key_told marks (word ++ n.word) (at * 2 ^ many_more) place).0 e in
        let mark = (starts_told marks word at table is here).1 (starts n.word refl key) in
        absurd (cc)

-- ---- what is told of a word by its place

module _ (marks word : List ℕ) (place : ℕ) (here : place_of word ≡ place) where
  -- a word that goes on from it, by the number that its further bits write
  key_behind : (back : List ℕ) (more number : ℕ) → length back ≡ more → number_of back ≡ number
      → IsTrue (is_key_at marks (place * 2 ^ more + number)) ↔ IsKeyOf marks (word ++ back)
  key_behind back more number many writes =
      key_told marks (word ++ back) (place * 2 ^ more + number)
      (goes_to word back place here ∙ ap (λ k. place * 2 ^ k + number_of back) many ∙ ap (λ k. place * 2 ^ more + k) writes)

  no_key_behind : (back : List ℕ) (more number : ℕ) → length back ≡ more → number_of back ≡ number
      → is_key_at marks (place * 2 ^ more + number) ≡ false → ¬ IsKeyOf marks (word ++ back)
  no_key_behind back more number many writes e key = let f = (key_behind back more number many writes).1 key in absurd (cc)

  pub full_of_place : (more : ℕ) → IsWord word → length word + more ≤ 12 → IsFullAt marks place more → IsFull marks word (length word + more)
  full_of_place more is short at = record {
    more = omega arith;
    short = short;
    full = λ back bits size.
        let few = number_of-lt back bits in
        let many : length back ≡ more = omega (arith, size) in
        (key_behind back more (number_of back) many refl).0 (at.full (place * 2 ^ more + number_of back) (omega arith)
        (omega (arith, few, ap (λ n. 2 ^ n) many)));
    none = λ back bits size.
        let few = number_of-lt back bits in
        no_key_behind back (length back) (number_of back) refl refl (at.none (length back) (omega (arith, size))
        (place * 2 ^ length back + number_of back) (omega arith) (omega (arith, few)));
  }

  pub place_of_full : (more bits : ℕ) → bits ≡ length word + more → IsFull marks word bits → IsFullAt marks place more
  place_of_full more bits size is = record {
    full = λ at low high. all at (at - place * 2 ^ more) (omega arith) (omega arith);
    none = λ less few at low high. no at less (at - place * 2 ^ less) few (omega arith) (omega arith);
  }
    where
      all : (at number : ℕ) → at ≡ place * 2 ^ more + number → number < 2 ^ more → is_key_at marks at ≡ true
      all at number same small =
          let n = numbered more number small in
          ap (λ k. is_key_at marks k) same ∙ (key_behind n.word more number n.many n.writes).1 (is.full n.word n.bits (omega (arith, n.many, size)))

      no : (at less number : ℕ) → less < more → at ≡ place * 2 ^ less + number → number < 2 ^ less → is_key_at marks at ≡ false
      no at less number few same small =
          let n = numbered less number small in
          by n (is_key_at marks (place * 2 ^ less + number)) refl
        where
          by : (n : Numbered less number) (told : Bool) → is_key_at marks (place * 2 ^ less + number) ≡ told → is_key_at marks at ≡ false
          by n false e = ap (λ k. is_key_at marks k) same ∙ e
          by n true e = absurd (is.none n.word n.bits (omega (arith, n.many, size, few)) ((key_behind n.word less number n.many n.writes).0 e))

-- ---- the one size that it can be

pub no_other_size : (marks : List ℕ) (place first more : ℕ) → is_key_at marks (place * 2 ^ first) ≡ true
    → AreNoKeys marks place first → IsFullAt marks place more → more ≡ first
no_other_size marks place first more key before at = by (order more first)
  where
    order : (a b : ℕ) → (a < b) ⊎ ((a ≡ b) ⊎ (b < a))
    order a b = grind arith

    some : 0 < 2 ^ more
    some = pow_pos more

    some_first : 0 < 2 ^ first
    some_first = pow_pos first

    by : (more < first) ⊎ ((more ≡ first) ⊎ (first < more)) → more ≡ first
    by (inl less) = let e = before more less in let f = at.full (place * 2 ^ more) (omega arith) (omega (arith, some)) in absurd (cc)
    by (inr (inl same)) = same
    by (inr (inr greater)) = let f = at.none first greater (place * 2 ^ first) (omega arith) (omega (arith, some_first)) in absurd (cc)

-- where no word is a key that is the first one and zeros, none of the sizes is it
pub no_size : (marks : List ℕ) (place count more : ℕ) → AreNoKeys marks place count → more < count → ¬ IsFullAt marks place more
no_size marks place count more none less at =
    let some = pow_pos more in
    let e = none more less in let f = at.full (place * 2 ^ more) (omega arith) (omega (arith, some)) in absurd (cc)

-- ---- zeros one after another

pub no_keys_first : (marks : List ℕ) (place : ℕ) → AreNoKeys marks place 0
no_keys_first marks place n less = absurd (omega arith)

pub no_keys_next : (marks : List ℕ) (place count at : ℕ) → AreNoKeys marks place count → at ≡ place * 2 ^ count
    → is_key_at marks at ≡ false → AreNoKeys marks place (count + 1)
no_keys_next marks place count at none same e many_more less = by (below_or many_more count less)
  where
    by : (many_more < count) ⊎ (many_more ≡ count) → is_key_at marks (place * 2 ^ many_more) ≡ false
    by (inl few) = none many_more few
    by (inr last) = ap (λ n. is_key_at marks (place * 2 ^ n)) last ∙ ap (λ n. is_key_at marks n) (sym same) ∙ e

before_or : (m n : ℕ) → (m < n + 1) ⊎ (n < m)
before_or m n = grind arith

-- from a word on that starts no key there is none
pub no_keys_on : (marks word : List ℕ) (place count at len : ℕ) → IsKeyTable marks → IsWord word
    → place_of word ≡ place → length word ≡ len → at ≡ place * 2 ^ count → len + count ≤ 12
    → is_marked marks (16384 + at) ≡ false → AreNoKeys marks place (count + 1) → AreNoKeys marks place (13 - len)
no_keys_on marks word place count at len table is here size same room unmarked none many_more less = by (before_or many_more count)
  where
    n : Numbered count 0
    n = numbered count 0 (pow_pos count)

    front : List ℕ
    front = word ++ n.word

    at_front : place_of front ≡ at
    at_front = goes_to word n.word place here ∙ ap (λ k. place * 2 ^ k + number_of n.word) n.many
        ∙ ap (λ k. place * 2 ^ count + k) n.writes ∙ omega (arith, same)

    is_front : IsWord front
    is_front = word_join word n.word is n.bits (omega (arith, n.many, size, room))

    by : (many_more < count + 1) ⊎ (count < many_more) → is_key_at marks (place * 2 ^ many_more) ≡ false
    by (inl few) = none many_more few
    by (inr many) =
        let rest = many_more - count in
        let sum : count + rest ≡ many_more = omega (arith, many) in
        let power : 2 ^ (count + rest) ≡ 2 ^ count * 2 ^ rest = pow-add 2 count rest in
        let place_is : place * 2 ^ many_more ≡ at * 2 ^ rest = ap (λ k. place * 2 ^ k) (sym sum)
        ∙ ap (λ k. place * k) power ∙ times place (2 ^ count) (2 ^ rest) ∙ ap (λ k. k * 2 ^ rest) (sym same) in
        ap (λ k. is_key_at marks k) place_is
        ∙ none_on marks front at rest table is_front at_front unmarked (omega (arith, many))
        (omega (arith, length-append word n.word, n.many, size, less, many))
      where
        times : (a b c : ℕ) → a * (b * c) ≡ a * b * c
        times a b c = omega arith

-- the bounds of a word's place, where it has room for so many bits more
pub key_place : (place len more : ℕ) → place < 2 ^ (len + 1) → len + more ≤ 12 → (place * 2 ^ more % 2 ^ 64 ≡ place * 2 ^ more) × (place * 2 ^ more < 8192)
key_place place len more small short =
    let room = room_at place len more small short in
    let level = level_at place more more room (omega arith) in
    let some = pow_pos more in
    let next : (place + 1) * 2 ^ more ≡ place * 2 ^ more + 2 ^ more = omega arith in
    (level.first_is, omega (arith, room, some, next))

-- where a word is another than all are, they are not all so
pub not_all : (marks : List ℕ) (place more : ℕ) → IsFullAt marks place more → IsOther marks true (place * 2 ^ more) (place * 2 ^ more + 2 ^ more) → ⊥
not_all marks place more at (k, low, high, other) = let e = at.full k low high in absurd (cc)

pub some_shorter : (marks : List ℕ) (place more : ℕ) → IsFullAt marks place more → (less : ℕ) × (less < more)
    × IsOther marks false (place * 2 ^ less) (place * 2 ^ less + 2 ^ less) → ⊥
some_shorter marks place more at (less, few, (k, low, high, other)) = let e = at.none less few k low high in absurd (cc)
