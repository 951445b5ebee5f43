-- Bits and the numbers that they write, the first bit most significant.
use Rattle.std.specs.Prelude.{◌≡◌, refl, ℕ, zero, suc, ◌+◌, ◌*◌, ◌/◌, ◌%◌, ◌^◌, List, [], ◌∷◌, length}

-- the number that bits write
abbrev pub number_of : List ℕ → ℕ
number_of [] = 0
number_of (bit ∷ rest) = bit * 2 ^ length rest + number_of rest

-- the last so many bits of a number
abbrev pub low_bits : ℕ → ℕ → List ℕ
low_bits zero number = []
low_bits (suc count) number = number / 2 ^ count % 2 ∷ low_bits count number

-- ---- examples

pub five_written : number_of (1 ∷ 0 ∷ 1 ∷ []) ≡ 5
five_written = refl

pub bits_of_thirteen : low_bits 3 13 ≡ 1 ∷ 0 ∷ 1 ∷ []
bits_of_thirteen = refl
