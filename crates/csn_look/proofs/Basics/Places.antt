-- The places of words.
use Rattle.std.proofs.Common.{◌≡◌, ℕ, zero, suc, ◌+◌, ◌*◌, ◌/◌, ◌%◌, ◌^◌, ◌<◌, ◌≤◌, List, [], ◌∷◌, ◌++◌, length, take}
use Rattle.std.proofs.Common.{refl, sym, ap, ◌∙◌, arith, length-append, inl, inr}
use Rattle.std.proofs.Math.Nat.{pow-suc, pow-le-pow_right}
use Rattle.std.proofs.lemmas.Bool.{cases_order}
use Rattle.std.proofs.lemmas.List.{length-take}
use Rattle.std.proofs.lemmas.Nat.{pow_pos}
use Rattle.csn_bits.specs.Octets.{IsBits}
use Rattle.csn_bits.proofs.NumberFacts.{number_of-push, number_of-append, number_of-lt, number_of-same}
use Rattle.csn_bits.proofs.Packing.{IsBits-append, IsBits-take}
use Rattle.csn_desc.proofs.BitFacts.{IsBits-front}
use Rattle.csn_bits.specs.Numbers.{number_of}
use Rattle.csn_look.specs.KeyMarks.{IsWord, place_of}

pub place_of-append : (a b : List ℕ) → place_of (a ++ b) ≡ place_of a * 2 ^ length b + number_of b
place_of-append a b = number_of-append (1 ∷ a) b

pub place_of-push : (a : List ℕ) (x : ℕ) → place_of (a ++ x ∷ []) ≡ 2 * place_of a + x
place_of-push a x = number_of-push (1 ∷ a) x

pub place_of-some : (a : List ℕ) → 0 < place_of a
place_of-some a = omega (arith, pow_pos (length a))

-- a word's place shows its length
pub place_of-least : (a : List ℕ) → 2 ^ length a ≤ place_of a
place_of-least a = omega arith

pub place_of-most : (a : List ℕ) → IsBits a → place_of a < 2 ^ suc (length a)
place_of-most a h = rw (pow-suc 2 (length a)) (omega (arith, number_of-lt a h))

pub place_of-small : (a : List ℕ) → IsWord a → place_of a < 8192
place_of-small a h = below (length a) h.short (place_of-most a h.bits)
  where
    below : (n : ℕ) → n ≤ 12 → place_of a < 2 ^ suc n → place_of a < 8192
    below n short most =
        let longer : suc n ≤ 13 = omega arith in
        let power : 2 ^ suc n ≤ 8192 = pow-le-pow_right {n = 2} (omega arith) longer in
        omega arith

-- words with one place are one
pub place_of-same : (a b : List ℕ) → IsBits a → IsBits b → place_of a ≡ place_of b → a ≡ b
place_of-same a b h k e =
    let lengths : length a ≡ length b = same_length (length a) (length b) (place_of a) (place_of-least a)
    (place_of-most a h) (rw e (place_of-least b)) (rw e (place_of-most b k)) in
    number_of-same a b h k lengths (rest (length a) (length b) lengths e)
  where
    rest : (m n : ℕ) → m ≡ n → 1 * 2 ^ m + number_of a ≡ 1 * 2 ^ n + number_of b → number_of a ≡ number_of b
    rest m n same big = let more : 1 * 2 ^ n + number_of a ≡ 1 * 2 ^ n + number_of b = ap (λ z. 1 * 2 ^ z + number_of a) (sym same) ∙ big in omega arith

    same_length : (m n p : ℕ) → 2 ^ m ≤ p → p < 2 ^ suc m → 2 ^ n ≤ p → p < 2 ^ suc n → m ≡ n
    same_length m n p a b c d =
        elim (cases_order m n) [
          | inl same ↦ same
          | inr apart ↦
              elim apart [
                | inl below ↦
                    let longer : suc m ≤ n = omega arith in
                    let power : 2 ^ suc m ≤ 2 ^ n = pow-le-pow_right {n = 2} (omega arith) longer in
                    absurd (omega arith)
                | inr more ↦
                    let longer : suc n ≤ m = omega arith in
                    let power : 2 ^ suc n ≤ 2 ^ m = pow-le-pow_right {n = 2} (omega arith) longer in
                    absurd (omega arith)
              ]
        ]

-- the place without the last bit
pub place_of-half : (a : List ℕ) (x : ℕ) → x ≤ 1 → place_of (a ++ x ∷ []) / 2 ≡ place_of a
place_of-half a x h = rw (place_of-push a x) (omega arith)

-- a word is empty or has a last bit
pub data LastBit : List ℕ → Type 0 where
  no_bits : {w : List ℕ} → w ≡ [] → LastBit w
  last_bit : {w : List ℕ} (front : List ℕ) (x : ℕ) → w ≡ front ++ x ∷ [] → LastBit w

pub last_of : (w : List ℕ) → LastBit w
last_of [] = no_bits refl
last_of (x ∷ w) = longer x (last_of w)
  where
    longer : (x : ℕ) {w : List ℕ} → LastBit w → LastBit (x ∷ w)
    longer x (no_bits e) = last_bit [] x (ap (λ v. x ∷ v) e)
    longer x (last_bit front y e) = last_bit (x ∷ front) y (ap (λ v. x ∷ v) e)

-- two fronts of one list with one length are one
pub fronts : {A : Type 0} (f g b c : List A) → f ++ b ≡ g ++ c → length f ≡ length g → f ≡ g
fronts [] [] b c e n = refl
fronts [] (y ∷ g) b c e n = absurd (omega (arith, n))
fronts (x ∷ f) [] b c e n = absurd (omega (arith, n))
fronts (x ∷ f) (y ∷ g) b c e n =
    let tails : f ++ b ≡ g ++ c = cc in
    let same : f ≡ g = fronts f g b c tails (omega (arith, n)) in
    cc

-- a part of a word is a word
pub word_front : (a b : List ℕ) → IsWord (a ++ b) → IsWord a
word_front a b h = record { bits = IsBits-front a b h.bits; short = omega (arith, h.short, length-append a b) }

-- the word with place 1 is empty
pub place_of-one : (a : List ℕ) → IsBits a → place_of a ≡ 1 → a ≡ []
place_of-one a h e = place_of-same a [] h tt e

pub word_take : (n : ℕ) (a : List ℕ) → IsWord a → IsWord (take n a)
word_take n a h = record { bits = IsBits-take n a h.bits; short = omega (arith, h.short, length-take n a) }

-- a word of some size that writes a number
pub record Numbered (size number : ℕ) : Type 0 where
  pub word : List ℕ
  pub bits : IsBits word
  pub many : length word ≡ size
  pub writes : number_of word ≡ number

pub numbered : (size number : ℕ) → number < 2 ^ size → Numbered size number
numbered zero number small = record { word = []; bits = tt; many = refl; writes = omega arith }
numbered (suc size) number small =
    let half : number / 2 < 2 ^ size = let double = pow-suc 2 size in omega arith in
    let n = numbered size (number / 2) half in
    let low : number % 2 ≤ 1 = omega arith in
    record {
      word = n.word ++ number % 2 ∷ [];
      bits = IsBits-append n.word (number % 2 ∷ []) n.bits (low, tt);
      many = length-append n.word (number % 2 ∷ []) ∙ omega (arith, n.many);
      writes = number_of-push n.word (number % 2) ∙ omega (arith, n.writes);
    }
