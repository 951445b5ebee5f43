-- Hexadecimal digits, as the crate hex reads and writes them. Other crates cite this.
use Rattle.std.proofs.Common.{◌≡◌, ℕ, ◌/◌, ◌%◌, ◌<◌, nat_lt, nat_le, Bool, true, false, List, [], ◌∷◌, ◌++◌, get_or}
use Rattle.std.proofs.Common.{slice_index, Option, Some, None, refl, ap, arith}
use Rattle.std.specs.Prelude.{MatchResult}
use Rattle.std.specs.Option.{ForSome}
use Rattle.std.proofs.lemmas.Bool.{agree_below_at, and_right, lt-leb, ltb-true}
use Rattle.hex.specs.Hex.{decode_sized, encode_upper, encode_with, hex_digit_value, is_hex_digit, upper_digits}
use Rattle.hex.proofs.OnLiterals.{hex_on_literals}

-- no byte from 103 on is a digit
pub high_fails : (byte : ℕ) → 102 < byte → is_hex_digit byte ≡ false
high_fails byte high =
    let a : nat_le byte 70 ≡ false = lt-leb byte 70 (omega arith) in
    let b : nat_le byte 102 ≡ false = lt-leb byte 102 (omega arith) in
    let c : nat_le byte 57 ≡ false = lt-leb byte 57 (omega arith) in
    rw (and_right (nat_le 65 byte) _ a, and_right (nat_le 97 byte) _ b, and_right (nat_le 48 byte) _ c) refl

-- whether a digit's value is below 16
abbrev is_small : Option ℕ → Bool
is_small (Some value) = nat_lt value 16
is_small None = true

small_from : (digit : Option ℕ) → is_small digit ≡ true → ForSome digit (λ value. value < 16)
small_from (Some value) h = λ x is. (let e : value ≡ x = cc in let low = ltb-true value 16 h in omega (arith, low, e))
small_from None h = λ x is. absurd (cc)

pub value_small : (byte : ℕ) → byte < 256 → ForSome (hex_digit_value byte) (λ value. value < 16)
value_small byte low = small_from (hex_digit_value byte) (agree_below_at (λ b. is_small (hex_digit_value b)) (λ _. true) 256 byte refl low)

-- the digits of some octets and then others
pub encode_upper-append : (front back : List ℕ) → encode_upper (front ++ back) ≡ encode_upper front ++ encode_upper back
unfolding encode_with
encode_upper-append [] back = refl
encode_upper-append (o ∷ front) back = ap (λ l. slice_index upper_digits (o / 16) ∷ slice_index upper_digits (o % 16) ∷ l) (encode_upper-append front back)
