-- The generator: blocks of an entry of the catalogue, each with another value in the field of its sample. (This project's
-- own choice.)
use Rattle.std.specs.Prelude.{ℕ, Bool, zero, suc, ◌+◌, ◌*◌, ◌%◌, ◌==◌, if◌then◌else◌, List, ◌++◌, take, drop}
use Rattle.std.specs.Int.{to_be_bytes, w64}
use Rattle.csn_bits.specs.Octets.{bits_of_octets}
use Rattle.csn_catalogue.specs.declared.entry.Entry.{Entry}
use Rattle.csn_catalogue.specs.Samples.{sample_octets, field_at, field_width}

-- the number behind a number: a linear congruential sequence of 64 bits
abbrev pub next_number : ℕ → ℕ
next_number x = (x * 6364136223846793005 + 1442695040888963407) % 18446744073709551616

-- the numbers, from 1 on
abbrev pub number : ℕ → ℕ
number zero = 1
number (suc k) = next_number (number k)

abbrev pub sample_bits : Entry → List ℕ
sample_bits entry = bits_of_octets (sample_octets entry)

-- the sample in whose field the first bits of a number of 64 bits stand, the first one most significant
abbrev pub sample_with : Entry → ℕ → List ℕ
sample_with entry x =
    take (field_at entry) (sample_bits entry) ++ take (field_width entry) (bits_of_octets (to_be_bytes w64 x))
    ++ drop (field_at entry + field_width entry) (sample_bits entry)

-- each sixteenth block is cut to its first bit
abbrev pub is_cut : ℕ → Bool
is_cut k = k % 16 == 15

-- the block with this number, from 0 on
abbrev pub block : Entry → ℕ → List ℕ
block entry k = if is_cut k then take 1 (sample_with entry (number (suc k))) else sample_with entry (number (suc k))
