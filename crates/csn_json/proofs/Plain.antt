-- Block lines and labels stand in a JSON string as they are.
use Rattle.std.proofs.Common.{◌≡◌, ℕ, zero, suc, ◌+◌, ◌/◌, ◌%◌, ◌<◌, ◌≤◌, ◌==◌, Bool, true, false, ◌&&◌, ◌||◌, not}
use Rattle.std.proofs.Common.{List, [], ◌∷◌, ◌++◌, length, get_or, slice_index, refl, ap, ◌∙◌, inl, inr, subst, arith}
use Rattle.std.specs.List.{list_all, slice_split, join_with_byte}
use Rattle.std.proofs.lemmas.Bool.{agree_below_at, and_parts, cases_lt, eqb-false, le-ltb, ltb-false, ne_eqb, not-true, or_parts}
use Rattle.std.proofs.lemmas.List.Splits.{join_with_byte-slice_split}
use Rattle.hex.specs.Hex.{encode_with, upper_digits}
use Rattle.json.specs.Print.{escape, quoted}
use Rattle.json.specs.Run.{is_plain, is_stop}
use Rattle.json.proofs.Printed.Strings.{escape_byte_plain}
use Rattle.csn_bits.specs.Octets.{IsBits, octets_of}
use Rattle.csn_bits.specs.Line.{written, tail_written}
use Rattle.csn_bits.proofs.Packing.{octets_of-small}
use Rattle.csn_lexer.specs.Word.{begins_word, goes_on_in_word, joins_pieces, starts_alphanumeric, is_word_tail, is_word}
use Rattle.csn_desc.specs.Label.{IsLabel}

-- ---- bytes that need no escape

abbrev ArePlain : List ℕ → Type 0
ArePlain [] = Unit {0}
ArePlain (c ∷ rest) = (is_plain c ≡ true) × ArePlain rest

plain-append : (a b : List ℕ) → ArePlain a → ArePlain b → ArePlain (a ++ b)
plain-append [] b are_a are_b = are_b
plain-append (c ∷ a) b are_a are_b = (are_a.0, plain-append a b are_a.1 are_b)

plain_byte : (c : ℕ) → (c ≡ 34 → ⊥) → (c ≡ 92 → ⊥) → 32 ≤ c → is_plain c ≡ true
plain_byte c quote backslash high = rw (ne_eqb c 34 quote, ne_eqb c 92 backslash, le-ltb c 32 high) refl

plain_escape : (s : List ℕ) → ArePlain s → escape s ≡ s
plain_escape [] are = refl
plain_escape (c ∷ rest) are =
    let none = or_parts _ _ (not-true (is_stop c) are.0) in
    let tests = or_parts (c == 34) _ none.0 in
    let first = escape_byte_plain c (eqb-false c 34 tests.0) (eqb-false c 92 tests.1) (ltb-false c 32 none.1) in
    ap (λ l. l ++ escape rest) first ∙ ap (λ l. c ∷ l) (plain_escape rest are.1)

pub plain_quoted : (s : List ℕ) → ArePlain s → quoted s ≡ 34 ∷ (s ++ 34 ∷ [])
plain_quoted s are = ap (λ l. 34 ∷ (l ++ 34 ∷ [])) (plain_escape s are)

-- ---- block lines

digit_plain : (v : ℕ) → v < 16 → is_plain (slice_index upper_digits v) ≡ true
digit_plain v small = agree_below_at (λ n. is_plain (slice_index upper_digits n)) (λ _. true) 16 v refl small

digits_plain : (octets : List ℕ) → ((k : ℕ) → get_or octets k 0 < 256) → ArePlain (encode_with upper_digits octets)
unfolding encode_with
digits_plain [] small = tt
digits_plain (o ∷ octets) small =
    let here : o < 256 = small 0 in
    (digit_plain (o / 16) (omega (arith, here)), (digit_plain (o % 16) (omega arith), digits_plain octets (λ k. small (suc k))))

tail_plain : (n : ℕ) → n < 8 → ArePlain (tail_written n)
tail_plain zero few = tt
tail_plain (suc n) few = (refl, (plain_byte (48 + suc n) (λ e. omega arith) (λ e. omega arith) (omega arith), tt))

pub written_plain : (b : List ℕ) → IsBits b → ArePlain (written b)
written_plain [] are = (refl, tt)
written_plain (bit ∷ rest) are =
    plain-append _ _ (digits_plain (octets_of (bit ∷ rest)) (λ k. octets_of-small (bit ∷ rest) k are)) (tail_plain (length (bit ∷ rest) % 8) (omega arith))

-- ---- labels

-- a byte of a word is plain
abbrev is_fine : ℕ → Bool
is_fine c = not (goes_on_in_word c || joins_pieces c) || is_plain c

byte_plain : (c : ℕ) → (goes_on_in_word c || joins_pieces c) ≡ true → is_plain c ≡ true
byte_plain c stands = elim (cases_lt c 93) [
  | inl low ↦ (
      let fine = agree_below_at is_fine (λ _. true) 93 c refl low in
      rw stands at fine)
  | inr high ↦ plain_byte c (λ e. omega (arith, e, high)) (λ e. omega (arith, e, high)) (omega (arith, high))
]

first_plain : (c : ℕ) → begins_word c ≡ true → is_plain c ≡ true
first_plain c begins = byte_plain c (rw begins refl)

next_stands : (a b d : Bool) → (a || (b && d)) ≡ true → (a || b) ≡ true
next_stands true b d holds = refl
next_stands false true d holds = refl
next_stands false false d holds = holds

tail_of_word : (w : List ℕ) → is_word_tail w ≡ true → ArePlain w
tail_of_word [] holds = tt
tail_of_word (c ∷ rest) holds =
    let parts = and_parts (goes_on_in_word c || (joins_pieces c && starts_alphanumeric rest)) (is_word_tail rest) holds in
    (byte_plain c (next_stands (goes_on_in_word c) (joins_pieces c) (starts_alphanumeric rest) parts.0), tail_of_word rest parts.1)

word_plain : (w : List ℕ) → is_word w ≡ true → ArePlain w
word_plain [] holds = tt
word_plain (c ∷ rest) holds = let parts = and_parts (begins_word c) (is_word_tail rest) holds in (first_plain c parts.0, tail_of_word rest parts.1)

words_plain : (ws : List (List ℕ)) → list_all is_word ws ≡ true → ArePlain (join_with_byte 32 ws)
words_plain [] holds = tt
words_plain (w ∷ []) holds = word_plain w (and_parts (is_word w) true holds).0
words_plain (w ∷ v ∷ ws) holds =
    let parts = and_parts (is_word w) (list_all is_word (v ∷ ws)) holds in
    plain-append w _ (word_plain w parts.0) (refl, words_plain (v ∷ ws) parts.1)

pub label_plain : (label : List ℕ) → IsLabel label → ArePlain label
label_plain label holds = subst ArePlain (join_with_byte-slice_split 32 label) (words_plain (slice_split (λ c. c == 32) label) holds)
