-- Bits in octets. The first bit of an octet is its most significant one, as 3GPP TS 44.060 numbers
-- the bits of a block.
use Rattle.std.specs.Prelude.{◌≡◌, refl, ℕ, map, length, take, ◌+◌, ◌*◌, ◌/◌, ◌%◌, ◌≤◌, List, [], ◌∷◌, ◌++◌, slice_index}

-- the most octets of a block
abbrev pub most_octets : ℕ
most_octets = 65536

-- the most bits of a block
abbrev pub most_bits : ℕ
most_bits = 524288

-- each of them is 0 or 1
abbrev pub IsBits : List ℕ → Type 0
IsBits [] = Unit {0}
IsBits (bit ∷ rest) = (bit ≤ 1) × IsBits rest

-- the eight bits of an octet, the most significant one first
abbrev pub bits_of_octet : ℕ → List ℕ
bits_of_octet n =
    n / 128 ∷ n / 64 % 2 ∷ n / 32 % 2 ∷ n / 16 % 2 ∷ n / 8 % 2 ∷ n / 4 % 2 ∷ n / 2 % 2 ∷ n % 2 ∷ []

-- the bits of some octets, in their order
abbrev pub bits_of_octets : List ℕ → List ℕ
bits_of_octets [] = []
bits_of_octets (n ∷ rest) = bits_of_octet n ++ bits_of_octets rest

-- the octet that begins with these bits, at most eight; its other bits are 0
abbrev pub octet_of : List ℕ → ℕ
octet_of bits =
    128 * slice_index bits 0 + 64 * slice_index bits 1 + 32 * slice_index bits 2 + 16 * slice_index bits 3
    + 8 * slice_index bits 4 + 4 * slice_index bits 5 + 2 * slice_index bits 6 + slice_index bits 7

-- the octets that hold some bits, eight to an octet; the unused bits of the last octet are 0
abbrev pub octets_of : List ℕ → List ℕ
octets_of [] = []
octets_of (a ∷ b ∷ c ∷ d ∷ e ∷ f ∷ g ∷ h ∷ rest) =
    octet_of (a ∷ b ∷ c ∷ d ∷ e ∷ f ∷ g ∷ h ∷ []) ∷ octets_of rest
octets_of few = octet_of few ∷ []

-- some octets hold `len` bits: all of these and no more, with zeros in what is unused
pub record IsPacked (octets : List ℕ) (len : ℕ) : Type 0 where
  pub few : len ≤ most_bits
  pub bits : IsBits (take len (bits_of_octets octets))
  pub within : len ≤ 8 * length octets
  pub exact : octets ≡ octets_of (take len (bits_of_octets octets))

-- the octet position of the bit at a place of a block, from 0 to 7 (3GPP TS 24.007, Annex B, counts
-- `L` and `H` by it)
abbrev pub octet_position : ℕ → ℕ
octet_position place = place % 8

-- the bit of the padding pattern, 0x2B, at an octet position
abbrev pub pattern : ℕ → ℕ
pattern position = slice_index (bits_of_octet 0x2B) position

-- ---- examples

-- three bits of the octet A5
pub three_bits : take 3 (bits_of_octets (0xA5 ∷ [])) ≡ 1 ∷ 0 ∷ 1 ∷ []
three_bits = refl

-- they are held in the octet A0, and with a fourth bit 1 in B0
pub three_held : octets_of (1 ∷ 0 ∷ 1 ∷ []) ≡ 0xA0 ∷ []
three_held = refl

pub four_held : octets_of (1 ∷ 0 ∷ 1 ∷ 1 ∷ []) ≡ 0xB0 ∷ []
four_held = refl

-- the padding pattern begins again after eight bits
pub pattern_bits : map (λ place. pattern (octet_position place)) (0 ∷ 1 ∷ 2 ∷ 3 ∷ 4 ∷ 5 ∷ 6 ∷ 7 ∷ 8 ∷ 9 ∷ [])
    ≡ 0 ∷ 0 ∷ 1 ∷ 0 ∷ 1 ∷ 0 ∷ 1 ∷ 1 ∷ 0 ∷ 0 ∷ []
pattern_bits = refl
