-- Block lines and labels are ASCII.
use Rattle.std.proofs.Common.{◌≡◌, ℕ, zero, suc, ◌+◌, ◌%◌, ◌<◌, ◌≤◌, ◌==◌, nat_le, Bool, true, false, ◌&&◌, ◌||◌}
use Rattle.std.proofs.Common.{List, [], ◌∷◌, length, refl, inl, inr, subst, arith}
use Rattle.std.specs.Str.{IsAscii}
use Rattle.std.specs.List.{list_all, slice_split, join_with_byte}
use Rattle.std.proofs.lemmas.Str.{IsAscii-append}
use Rattle.std.proofs.lemmas.Str.Ascii.{IsAscii-nil, IsAscii-cons}
use Rattle.std.proofs.lemmas.Bool.{and_parts, cases_lt, lt-leb, le-leb, leb-true, ne_eqb}
use Rattle.std.proofs.lemmas.List.Splits.{join_with_byte-slice_split}
use Rattle.hex.specs.Hex.{upper_digits}
use Rattle.hex.proofs.HexLemmas.{IsAscii-encode_with}
use Rattle.csn_bits.specs.Octets.{octets_of}
use Rattle.csn_bits.specs.Line.{written, tail_written}
use Rattle.csn_lexer.specs.Word.{begins_word, goes_on_in_word, joins_pieces, starts_alphanumeric, is_word_tail, is_word}
use Rattle.csn_desc.specs.Label.{IsLabel}

-- ---- block lines

pub ascii_if : (bytes : List ℕ) → list_all (λ byte. nat_le byte 127) bytes ≡ true → IsAscii bytes
ascii_if [] holds = IsAscii-nil
ascii_if (byte ∷ rest) holds =
    let parts = and_parts (nat_le byte 127) (list_all (λ b. nat_le b 127) rest) holds in
    let low : byte ≤ 127 = leb-true byte 127 parts.0 in
    IsAscii-cons byte rest (omega arith) (ascii_if rest parts.1)

digits_are_ascii : IsAscii upper_digits
digits_are_ascii = ascii_if upper_digits refl

tail_is_ascii : (n : ℕ) → n < 8 → IsAscii (tail_written n)
tail_is_ascii zero few = IsAscii-nil
tail_is_ascii (suc n) few = IsAscii-cons 47 ((48 + suc n) ∷ []) (omega arith) (IsAscii-cons (48 + suc n) [] (omega arith) IsAscii-nil)

pub written_is_ascii : (bits : List ℕ) → IsAscii (written bits)
written_is_ascii [] = IsAscii-cons 46 [] (omega arith) IsAscii-nil
written_is_ascii (bit ∷ rest) =
    let few : length (bit ∷ rest) % 8 < 8 = omega arith in
    IsAscii-append _ _ (IsAscii-encode_with upper_digits (octets_of (bit ∷ rest)) digits_are_ascii) (tail_is_ascii _ few)

-- ---- labels

-- no byte past ASCII stands in a word
beyond : (c : ℕ) → 128 ≤ c → (begins_word c ≡ false) × (goes_on_in_word c ≡ false) × (joins_pieces c ≡ false)
beyond c high =
    let a : nat_le 48 c ≡ true = le-leb 48 c (omega arith) in
    let b : nat_le c 57 ≡ false = lt-leb c 57 (omega arith) in
    let d : nat_le 65 c ≡ true = le-leb 65 c (omega arith) in
    let e : nat_le c 90 ≡ false = lt-leb c 90 (omega arith) in
    let f : nat_le 97 c ≡ true = le-leb 97 c (omega arith) in
    let g : nat_le c 122 ≡ false = lt-leb c 122 (omega arith) in
    let h : (c == 95) ≡ false = ne_eqb c 95 (λ is. omega arith) in
    let i : (c == 39) ≡ false = ne_eqb c 39 (λ is. omega arith) in
    let j : (c == 46) ≡ false = ne_eqb c 46 (λ is. omega arith) in
    let k : (c == 44) ≡ false = ne_eqb c 44 (λ is. omega arith) in
    let l : (c == 47) ≡ false = ne_eqb c 47 (λ is. omega arith) in
    let m : (c == 45) ≡ false = ne_eqb c 45 (λ is. omega arith) in
    (rw (a, b, d, e, f, g, h) refl, rw (a, b, d, e, f, g, h, i, j, k) refl, rw (l, m) refl)

first_is_low : (c : ℕ) → begins_word c ≡ true → c < 128
first_is_low c holds = elim (cases_lt c 128) [
  | inl low ↦ low
  | inr high ↦ (let other = (beyond c high).0 in absurd cc)
]

next_is_low : (c : ℕ) (b : Bool) → (goes_on_in_word c || (joins_pieces c && b)) ≡ true → c < 128
next_is_low c b holds = elim (cases_lt c 128) [
  | inl low ↦ low
  | inr high ↦ (
      let not_on = (beyond c high).1 in
      let not_joined = (beyond c high).2 in
      let none : (goes_on_in_word c || (joins_pieces c && b)) ≡ false = rw (not_on, not_joined) refl in
      absurd cc)
]

tail_of_word : (w : List ℕ) → is_word_tail w ≡ true → IsAscii w
tail_of_word [] holds = IsAscii-nil
tail_of_word (c ∷ rest) holds =
    let parts = and_parts (goes_on_in_word c || (joins_pieces c && starts_alphanumeric rest)) (is_word_tail rest) holds in
    IsAscii-cons c rest (next_is_low c (starts_alphanumeric rest) parts.0) (tail_of_word rest parts.1)

word_is_ascii : (w : List ℕ) → is_word w ≡ true → IsAscii w
word_is_ascii [] holds = IsAscii-nil
word_is_ascii (c ∷ rest) holds =
    let parts = and_parts (begins_word c) (is_word_tail rest) holds in
    IsAscii-cons c rest (first_is_low c parts.0) (tail_of_word rest parts.1)

words_are_ascii : (ws : List (List ℕ)) → list_all is_word ws ≡ true → IsAscii (join_with_byte 32 ws)
words_are_ascii [] holds = IsAscii-nil
words_are_ascii (w ∷ []) holds = word_is_ascii w (and_parts (is_word w) true holds).0
words_are_ascii (w ∷ v ∷ ws) holds =
    let parts = and_parts (is_word w) (list_all is_word (v ∷ ws)) holds in
    IsAscii-append w _ (word_is_ascii w parts.0) (IsAscii-cons 32 _ (omega arith) (words_are_ascii (v ∷ ws) parts.1))

pub label_is_ascii : (label : List ℕ) → IsLabel label → IsAscii label
label_is_ascii label holds = subst IsAscii (join_with_byte-slice_split 32 label) (words_are_ascii (slice_split (λ c. c == 32) label) holds)
