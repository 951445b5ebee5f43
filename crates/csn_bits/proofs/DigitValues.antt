-- The table of the values of digits, and digits that are read by pairs.
use Rattle.std.proofs.Common.{◌≡◌, ℕ, zero, suc, ◌+◌, ◌*◌, ◌<◌, ◌≤◌, ◌==◌, nat_le, true, false, if◌then◌else◌, List}
use Rattle.std.proofs.Common.{[], ◌∷◌, ◌++◌, length, take, get_or, append_assoc, Option, Some, None, is_some}
use Rattle.std.proofs.Common.{unwrap_or, refl, sym, ap, ◌∙◌, subst, arith, eqb-true, slice_index}
use Rattle.std.proofs.lemmas.List.{take_more, take_more_set, length-take-le}
use Rattle.std.proofs.lemmas.Bool.{agree_below_at, le-leb, lt-leb}
use Rattle.hex.specs.Hex.{hex_digit_value}
use Rattle.csn_bits.specs.declared.digit.TheConstants.{DIGIT_VALUES}
use Rattle.csn_bits.specs.Feed.{AreDigits, waiting_value}
use Rattle.csn_bits.specs.Line.{octets_of_digits, value_of}
use Rattle.csn_bits.proofs.Digits.{AreDigits-append, octets-append}
use Rattle.csn_bits.proofs.Decoding.{none_waits}

-- ---- the table

abbrev code : Option ℕ → ℕ
code None = zero
code (Some v) = suc v

one_option : (a b : Option ℕ) → code a ≡ code b → a ≡ b
one_option None None e = refl
one_option None (Some v) e = absurd (omega (arith, e))
one_option (Some v) None e = absurd (omega (arith, e))
one_option (Some v) (Some w) e = let same : v ≡ w = omega (arith, e) in ap (λ x. Some x) same

abbrev by_table : ℕ → Option ℕ
by_table byte = if nat_le (slice_index DIGIT_VALUES byte) 15 then Some (slice_index DIGIT_VALUES byte) else None

by_table_is : (byte : ℕ) → byte < 256 → by_table byte ≡ hex_digit_value byte
by_table_is byte low = one_option (by_table byte) (hex_digit_value byte)
    (eqb-true _ _ (agree_below_at (λ k. code (by_table k) == code (hex_digit_value k)) (λ _. true) 256 byte refl low))

pub is_digit : (byte : ℕ) → byte < 256 → slice_index DIGIT_VALUES byte < 16 → Some (slice_index DIGIT_VALUES byte) ≡ hex_digit_value byte
is_digit byte low small =
    let yes : nat_le (slice_index DIGIT_VALUES byte) 15 ≡ true = le-leb (slice_index DIGIT_VALUES byte) 15 (omega (arith, small)) in
    sym (ap (λ b. if b then Some (slice_index DIGIT_VALUES byte) else None) yes) ∙ by_table_is byte low

pub no_digit : (byte : ℕ) → byte < 256 → 16 ≤ slice_index DIGIT_VALUES byte → None ≡ hex_digit_value byte
no_digit byte low large =
    let no : nat_le (slice_index DIGIT_VALUES byte) 15 ≡ false = lt-leb (slice_index DIGIT_VALUES byte) 15 (omega (arith, large)) in
    sym (ap (λ b. if b then Some (slice_index DIGIT_VALUES byte) else None) no) ∙ by_table_is byte low

-- ---- pairs

-- two digits write an octet
pub pair_octet : (high low first second : ℕ) → Some first ≡ hex_digit_value high → Some second ≡ hex_digit_value low
    → AreDigits (high ∷ low ∷ []) × ((16 * first + second) ∷ [] ≡ octets_of_digits (high ∷ low ∷ []))
pair_octet high low first second a b =
    let one : value_of high ≡ first = ap (λ v. unwrap_or v 0) (sym a) in
    let two : value_of low ≡ second = ap (λ v. unwrap_or v 0) (sym b) in
    let same : 16 * first + second ≡ 16 * value_of high + value_of low = omega (arith, one, two) in
    ((ap (λ v. is_some v) (sym a), (ap (λ v. is_some v) (sym b), tt)), ap (λ o. o ∷ []) same)

-- the octets of the pairs that were read stand in the room
abbrev pub AreRead : List ℕ → List ℕ → ℕ → Type 0
AreRead bytes room at = AreDigits (take (2 * at) bytes) × (take at room ≡ octets_of_digits (take (2 * at) bytes))

two_more : (bytes : List ℕ) (at high low : ℕ) → 2 * at + 1 < length bytes → get_or bytes (2 * at) 0 ≡ high → get_or bytes (2 * at + 1) 0 ≡ low
    → take (2 * (at + 1)) bytes ≡ take (2 * at) bytes ++ high ∷ low ∷ []
two_more bytes at high low within is_high is_low =
    let next : 2 * (at + 1) ≡ 2 * at + 1 + 1 = omega arith in
    ap (λ n. take n bytes) next
    ∙ take_more bytes (2 * at + 1) 0 within
    ∙ ap (λ l. l ++ get_or bytes (2 * at + 1) 0 ∷ []) (take_more bytes (2 * at) 0 (omega (arith, within)))
    ∙ append_assoc (take (2 * at) bytes) (get_or bytes (2 * at) 0 ∷ []) (get_or bytes (2 * at + 1) 0 ∷ [])
    ∙ ap (λ n. take (2 * at) bytes ++ n ∷ get_or bytes (2 * at + 1) 0 ∷ []) is_high
    ∙ ap (λ n. take (2 * at) bytes ++ high ∷ n ∷ []) is_low

-- one pair more
pub read_more : (bytes room after : List ℕ) (at octet high low : ℕ)
    → 2 * at + 1 < length bytes → get_or bytes (2 * at) 0 ≡ high → get_or bytes (2 * at + 1) 0 ≡ low
    → AreDigits (high ∷ low ∷ []) → octet ∷ [] ≡ octets_of_digits (high ∷ low ∷ []) → take (at + 1) after ≡ take at room ++ octet ∷ []
    → AreRead bytes room at → AreRead bytes after (at + 1)
read_more bytes room after at octet high low within is_high is_low digits written stored read =
    let more = two_more bytes at high low within is_high is_low in
    let even = none_waits (take (2 * at) bytes) (omega (arith, length-take-le (2 * at) bytes (omega (arith, within)))) in (
      subst AreDigits (sym more) (AreDigits-append (take (2 * at) bytes) (high ∷ low ∷ []) read.0 digits),
      stored
          ∙ ap (λ l. l ++ octet ∷ []) read.1
          ∙ ap (λ l. octets_of_digits (take (2 * at) bytes) ++ l) written
          ∙ sym (octets-append (take (2 * at) bytes) (high ∷ low ∷ []) even)
          ∙ ap (λ l. octets_of_digits l) (sym more),
    )
