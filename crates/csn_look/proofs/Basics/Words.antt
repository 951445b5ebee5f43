-- Words of at most 12 bits, and the numbers that they are kept as.
use Rattle.std.proofs.Common.{◌≡◌, ℕ, zero, suc, ◌+◌, ◌-◌, ◌*◌, ◌/◌, ◌%◌, ◌^◌, ◌<◌, ◌≤◌, Bool, true, false, nat_le}
use Rattle.std.proofs.Common.{List, [], ◌∷◌, ◌++◌, length, get_or, refl, sym, ap, ◌∙◌, subst, arith, append_assoc}
use Rattle.std.proofs.Common.{length-append}
use Rattle.std.proofs.Math.Nat.{pow-suc, pow-le-pow_right}
use Rattle.std.proofs.lemmas.Nat.{div-mul-add, or_shifted, pow_pos}
use Rattle.std.specs.Int.Bits.{bit_or}
use Rattle.std.specs.Int.Count.{count_leading_zeros, leading_unique}
use Rattle.std.proofs.lemmas.Bool.Decides.{nat_tests}
use Rattle.csn_bits.specs.Octets.{IsBits}
use Rattle.csn_bits.proofs.NumberFacts.{number_of-lt, length-low_bits, IsBits-low_bits, number_of-low_bits_small}
use Rattle.csn_bits.proofs.Packing.{IsBits-append}
use Rattle.csn_bits.specs.Numbers.{number_of, low_bits}
use Rattle.csn_look.specs.KeyMarks.{IsWord, place_of}
use Rattle.csn_look.specs.WordV.{bits_behind, word_of}
use Rattle.csn_look.proofs.Basics.Places.{place_of-append, place_of-push, place_of-least, place_of-most, place_of-same}
use Rattle.csn_look.proofs.Tables.Products.{bits_back, split_at}

-- ---- a number as a word

-- what is known of the bits behind the first 1 of a number
pub record Behind (most place : ℕ) : Type 0 where
  pub bits : IsBits (bits_behind most place)
  pub few : length (bits_behind most place) ≤ most
  pub gives : place_of (bits_behind most place) ≡ place

behind_more : (most place : ℕ) (test : Bool) → nat_le place 1 ≡ test → 0 < place → (1 < place → Behind most (place / 2)) → Behind (suc most) place
behind_more most place true one some half =
    let e : bits_behind (suc most) place ≡ [] = rw one refl in
    record {
      bits = rw e tt;
      few = rw e (omega arith);
      gives = rw e (let low : place ≡ 1 = grind (arith, nat_tests) in sym low);
    }
behind_more most place false one some half =
    let big : 1 < place = grind (arith, nat_tests) in
    let h = half big in
    let low : place % 2 ≤ 1 = omega arith in
    let e : bits_behind (suc most) place ≡ bits_behind most (place / 2) ++ place % 2 ∷ [] = rw one refl in
    record {
      bits = rw e (IsBits-append (bits_behind most (place / 2)) (place % 2 ∷ []) h.bits (low, tt));
      few = rw e (omega (arith, h.few, length-append (bits_behind most (place / 2)) (place % 2 ∷ [])));
      gives = rw e (place_of-push (bits_behind most (place / 2)) (place % 2) ∙ omega (arith, h.gives));
    }

pub behind : (most place : ℕ) → 0 < place → place < 2 ^ suc most → Behind most place
behind zero place some small =
    let power = pow-suc 2 0 in
    record { bits = tt; few = omega arith; gives = omega arith }
behind (suc most) place some small =
    let power = pow-suc 2 (suc most) in
    behind_more most place (nat_le place 1) refl some (λ big. behind most (place / 2) (omega arith) (omega arith))

-- a place is that of its word
pub word_of-bits : (place : ℕ) → 0 < place → place < 8192 → IsBits (word_of place)
unfolding word_of
word_of-bits place some small = (behind 12 place some small).bits

pub word_of-short : (place : ℕ) → 0 < place → place < 8192 → length (word_of place) ≤ 12
unfolding word_of
word_of-short place some small = (behind 12 place some small).few

pub word_of-is : (place : ℕ) → 0 < place → place < 8192 → IsWord (word_of place)
word_of-is place some small = record { bits = word_of-bits place some small; short = word_of-short place some small }

pub word_of-place : (place : ℕ) → 0 < place → place < 8192 → place_of (word_of place) ≡ place
unfolding word_of
word_of-place place some small = (behind 12 place some small).gives

-- and a word is that of its place
pub place_of-word : (word : List ℕ) (place : ℕ) → IsWord word → place_of word ≡ place → 0 < place → place < 8192 → word_of place ≡ word
place_of-word word place is here some small =
    place_of-same (word_of place) word (word_of-bits place some small) is.bits (word_of-place place some small ∙ sym here)

-- a word with room has a small place
pub roomy : (place : ℕ) → 0 < place → place < 8192 → length (word_of place) < 12 → place < 4096
roomy place some small room =
    let most = place_of-most (word_of place) (word_of-bits place some small) in
    let longer : suc (length (word_of place)) ≤ 12 = omega arith in
    let power : 2 ^ suc (length (word_of place)) ≤ 4096 = pow-le-pow_right {n = 2} (omega arith) longer in
    omega (arith, most, power, word_of-place place some small)

-- one bit more
pub word_of-push : (place bit : ℕ) → 0 < place → place < 4096 → bit ≤ 1 → word_of (2 * place + bit) ≡ word_of place ++ bit ∷ []
word_of-push place bit some small low =
    let bits : IsBits (word_of place ++ bit ∷ []) = IsBits-append (word_of place) (bit ∷ []) (word_of-bits place some (omega arith)) (low, tt) in
    place_of-same (word_of (2 * place + bit)) (word_of place ++ bit ∷ [])
    (word_of-bits (2 * place + bit) (omega arith) (omega arith)) bits
    (word_of-place (2 * place + bit) (omega arith) (omega arith)
    ∙ sym (place_of-push (word_of place) bit ∙ ap (λ p. 2 * p + bit) (word_of-place place some (omega arith))))

-- ---- the last bits of a number

-- their place, as it is written
pub record IsPlaceOf (count number place : ℕ) : Type 0 where
  pub some : 0 < place
  pub small : place < 8192
  pub gives : word_of place ≡ low_bits count number

pub placed : (count number : ℕ) → count ≤ 12 → number < 2 ^ count → IsPlaceOf count number (bit_or (1 * 2 ^ count % 2 ^ 64) number)
placed count number few least =
    let power : 2 ^ count ≤ 2 ^ 12 = pow-le-pow_right {n = 2} (omega arith) few in
    let whole : 1 * 2 ^ count % 2 ^ 64 ≡ 1 * 2 ^ count = omega (arith, power) in
    let is : bit_or (1 * 2 ^ count % 2 ^ 64) number ≡ 1 * 2 ^ count + number =
    ap (λ (p : ℕ). bit_or p number) whole ∙ or_shifted 1 count number least in
    let size = length-low_bits count number in
    let word : IsWord (low_bits count number) = record { bits = IsBits-low_bits count number; short = omega (arith, size, few) } in
    let here : place_of (low_bits count number) ≡ 1 * 2 ^ count + number =
    ap (λ (n : ℕ). 1 * 2 ^ n + number_of (low_bits count number)) size
    ∙ ap (λ (n : ℕ). 1 * 2 ^ count + n) (number_of-low_bits_small count number least) in
    let some : 0 < 1 * 2 ^ count + number = omega (arith, pow_pos count) in
    let small : 1 * 2 ^ count + number < 8192 = omega (arith, power, least) in
    record {
      some = rw is some;
      small = rw is small;
      gives = ap word_of is ∙ place_of-word (low_bits count number) (1 * 2 ^ count + number) word here some small;
    }

-- ---- the bits of a word by its place

get_at : (front : List ℕ) (x : ℕ) (back : List ℕ) → get_or (front ++ x ∷ back) (length front) 0 ≡ x
get_at [] x back = refl
get_at (y ∷ front) x back = get_at front x back

pub bit_of_place :
    (word : List ℕ) (place size at behind : ℕ) → IsBits word → place_of word ≡ place → length word ≡ size → at < size
    → behind ≡ 2 ^ (size - 1 - at) → place / behind % 2 ≡ get_or word at 0
bit_of_place word place size at behind is here many within power =
    let s = split_at at word (omega arith) in
    bit s.front s.next s.back s.parts s.many
  where
    bit : (front : List ℕ) (x : ℕ) (back : List ℕ) → word ≡ front ++ x ∷ back → length front ≡ at → place / behind % 2 ≡ get_or word at 0
    bit front x back parts front_many =
        let bits : IsBits (front ++ x ∷ back) = let P : List ℕ → Type 0 = IsBits in subst P parts is in
        let both : IsBits (x ∷ back) = bits_back front (x ∷ back) bits in
        let low : x ≤ 1 = both.0 in
        let left : length back ≡ size - 1 - at = let e = ap length parts in omega (arith, e, length-append front (x ∷ back)) in
        let split : place ≡ (2 * place_of front + x) * 2 ^ length back + number_of back =
        sym here ∙ ap place_of parts ∙ ap place_of (sym (append_assoc front (x ∷ []) back)) ∙ place_of-append (front ++ x ∷ []) back
        ∙ ap (λ p. p * 2 ^ length back + number_of back) (place_of-push front x) in
        let half : place / behind ≡ 2 * place_of front + x =
        ap (λ p. p / behind) split ∙ ap (λ b. ((2 * place_of front + x) * 2 ^ length back + number_of back) / b) (power ∙ ap (λ n. 2 ^ n) (sym left))
        ∙ div-mul-add (2 * place_of front + x) (2 ^ length back) (number_of back) (number_of-lt back both.1) in
        let odd : (2 * place_of front + x) % 2 ≡ x = omega arith in
        ap (λ n. n % 2) half ∙ odd ∙ sym (get_at front x back) ∙ ap (λ n. get_or (front ++ x ∷ back) n 0) front_many ∙ ap (λ l. get_or l at 0) (sym parts)

-- the bits of a word are counted by the zeros before its place
pub word_size : (place : ℕ) → 0 < place → place < 8192 → 15 - count_leading_zeros 16 place ≡ length (word_of place)
word_size place some small =
    let size = length (word_of place) in
    let short : size ≤ 12 = word_of-short place some small in
    let here = word_of-place place some small in
    let most : place < 2 ^ suc size = omega (arith, here, place_of-most (word_of place) (word_of-bits place some small)) in
    let least : 2 ^ size ≤ place = omega (arith, here, place_of-least (word_of place)) in
    let power = pow-suc 2 size in
    let zeros : 15 - size ≡ count_leading_zeros 16 place = leading_unique 16 place (15 - size) (suc size) (omega arith) most (omega arith) in
    omega arith

pub word_bit : (place at behind : ℕ) → 0 < place → place < 8192 → at < length (word_of place)
    → behind ≡ length (word_of place) - 1 - at → place / 2 ^ behind % 2 ≡ get_or (word_of place) at 0
word_bit place at behind some small within far =
    bit_of_place (word_of place) place (length (word_of place)) at (2 ^ behind) (word_of-bits place some small)
    (word_of-place place some small) refl within (ap (λ n. 2 ^ n) far)
