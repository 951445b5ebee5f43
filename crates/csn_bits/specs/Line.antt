-- Block lines: the bits of a block as one line of text. The form is this project's own, after the
-- hexadecimal octets in which GSM blocks are mostly shown.
--
-- `.` is the block without bits. Any other block has two digits for each octet, the high four bits
-- first, and `/n` after them where only the first n bits of the last octet belong to the block.
use Rattle.std.specs.Prelude.{◌≡◌, refl, ℕ, zero, suc, ◌+◌, ◌-◌, ◌*◌, ◌%◌, ◌≤◌, ◌==◌, nat_le, nat_lt, Bool, false}
use Rattle.std.specs.Prelude.{◌&&◌, ◌||◌, not, if◌then◌else◌, List, [], ◌∷◌, ◌++◌, length, drop, map, sum, codes}
use Rattle.std.specs.Prelude.{Option, Some, None, unwrap_or, is_none, option_map}
use Rattle.std.specs.List.{position_from}
use Rattle.std.proofs.Common.{lit≤}
use Rattle.hex.specs.Hex.{encode_upper, encode_with, hex_digit_value, is_hex_digit}
use Rattle.csn_bits.specs.Octets.{IsBits, bits_of_octet, most_bits, most_octets, octets_of}
use Rattle.csn_bits.specs.declared.fault.LineWhy.{LineWhy}
use Rattle.csn_bits.specs.declared.fault.LineWhy.TheVariants.{BadDigit, BadLength, BadFill, TooManyBits}

-- ---- writing

-- what follows the digits, where n bits of the last octet belong to the block, or all where n is 0:
-- 47 is `/`, and 48 is the digit `0`
abbrev pub tail_written : ℕ → List ℕ
tail_written zero = []
tail_written (suc n) = 47 ∷ (48 + suc n) ∷ []

-- the one line that is written for some bits, in upper case
abbrev pub written : List ℕ → List ℕ
written [] = codes "."
written (bit ∷ rest) =
    encode_upper (octets_of (bit ∷ rest)) ++ tail_written (length (bit ∷ rest) % 8)

-- a digit from `a` to `f` in upper case; any other byte as it is
abbrev pub upper : ℕ → ℕ
upper byte = if nat_le 97 byte && nat_le byte 102 then byte - 32 else byte

-- the line spells the bits, with digits in either case: in upper case it is what is written for them
pub record BlockLine (line bits : List ℕ) : Type 0 where
  pub zeros_and_ones : IsBits bits
  pub few : length bits ≤ most_bits
  pub spelled : map upper line ≡ written bits

-- ---- reading

-- the digits of a line: the bytes before its first `/`
abbrev pub digits_of : List ℕ → List ℕ
digits_of [] = []
digits_of (byte ∷ rest) = if byte == 47 then [] else byte ∷ digits_of rest

-- its tail: what follows its first `/`, if it has one
abbrev pub tail_of : List ℕ → Option (List ℕ)
tail_of [] = None
tail_of (byte ∷ rest) = if byte == 47 then Some rest else tail_of rest

-- how many bits of the last octet belong to the block: what a tail of one digit from `1` to `7` says,
-- and all without a tail
abbrev pub bits_of_tail : Option (List ℕ) → Option ℕ
bits_of_tail None = Some 8
bits_of_tail (Some (byte ∷ [])) = if nat_le 49 byte && nat_le byte 55 then Some (byte - 48) else None
bits_of_tail (Some tail) = None

-- the value of a digit
abbrev pub value_of : ℕ → ℕ
value_of digit = unwrap_or (hex_digit_value digit) 0

-- the octets of the whole pairs of digits
abbrev pub octets_of_digits : List ℕ → List ℕ
octets_of_digits (high ∷ low ∷ rest) = (16 * value_of high + value_of low) ∷ octets_of_digits rest
octets_of_digits fewer = []

-- the last of a list
abbrev pub last_of : List ℕ → Option ℕ
last_of [] = None
last_of (x ∷ []) = Some x
last_of (x ∷ y ∷ rest) = last_of (y ∷ rest)

-- the unused bits of an octet of which some bits belong to the block
abbrev pub unused_bits : ℕ → ℕ → List ℕ
unused_bits octet used = drop used (bits_of_octet octet)

-- ---- what is wrong with a line

-- the first of the digits that is none, by its column from 0
abbrev pub bad_digit : List ℕ → Option LineWhy
bad_digit digits = option_map BadDigit (position_from (λ byte. not (is_hex_digit byte)) 0 digits)

-- no digits, an odd number of them, or a tail that counts no bits
abbrev pub bad_length : List ℕ → Option ℕ → Option LineWhy
bad_length digits used =
    if length digits == 0 || length digits % 2 == 1 || is_none used then Some BadLength else None

-- an unused bit of the last octet that is 1
abbrev pub bad_fill : List ℕ → Option ℕ → Option LineWhy
bad_fill digits used =
    if nat_lt 0 (sum (unused_bits (unwrap_or (last_of (octets_of_digits digits)) 0) (unwrap_or used 8)))
    then Some BadFill else None

-- more octets than a block has
abbrev pub too_many_bits : List ℕ → Option LineWhy
too_many_bits digits = if nat_lt (2 * most_octets) (length digits) then Some TooManyBits else None

-- the first fault of some
abbrev pub first_fault : List (Option LineWhy) → Option LineWhy
first_fault [] = None
first_fault (Some why ∷ rest) = Some why
first_fault (None ∷ rest) = first_fault rest

-- whether the line is `.`
abbrev pub is_dot : List ℕ → Bool
is_dot (byte ∷ []) = byte == 46
is_dot line = false

-- the faults of digits and a tail, in the order in which they are told
abbrev pub fault_of_parts : List ℕ → Option (List ℕ) → Option LineWhy
fault_of_parts digits tail =
    first_fault
    (bad_digit digits ∷ bad_length digits (bits_of_tail tail) ∷ bad_fill digits (bits_of_tail tail)
    ∷ too_many_bits digits ∷ [])

-- why a line is no block line, and None where it is one
abbrev pub fault_of : List ℕ → Option LineWhy
fault_of line = if is_dot line then None else fault_of_parts (digits_of line) (tail_of line)

-- ---- examples

pub written_octet : written (1 ∷ 0 ∷ 1 ∷ 0 ∷ 0 ∷ 1 ∷ 0 ∷ 1 ∷ []) ≡ codes "A5"
unfolding encode_with
written_octet = refl

pub written_bits : written (1 ∷ 0 ∷ 1 ∷ []) ≡ codes "A0/3"
unfolding encode_with
written_bits = refl

-- a line is read with small letters too
pub spelled_small : BlockLine (codes "f8/5") (1 ∷ 1 ∷ 1 ∷ 1 ∷ 1 ∷ [])
unfolding encode_with
spelled_small = record { zeros_and_ones = (lit≤ tt, (lit≤ tt, (lit≤ tt, (lit≤ tt, (lit≤ tt, tt))))); few = lit≤ tt; spelled = refl }

-- the order of faults: a bad digit stands before a bad tail, and this before an unused bit
pub bad_digit_first : fault_of (codes "A0GG/9") ≡ Some (BadDigit 2)
bad_digit_first = refl

pub dots : fault_of (codes "..") ≡ Some (BadDigit 0)
dots = refl

pub empty_line : fault_of [] ≡ Some BadLength
empty_line = refl

pub bad_tail : fault_of (codes "A1/0") ≡ Some BadLength
bad_tail = refl

pub unused_one : fault_of (codes "A1/3") ≡ Some BadFill
unused_one = refl

pub no_fault : fault_of (codes "A0/3") ≡ None
no_fault = refl
