-- The sample blocks of the entries, and the field of each that may have any value. (The choice is this
-- project's own.)
use Rattle.std.specs.Prelude.{ℕ, List, [], ◌∷◌, ◌++◌, replicate}
use Rattle.csn_catalogue.specs.declared.entry.Entry.{Entry}
use Rattle.csn_catalogue.specs.declared.entry.Entry.TheVariants.{Uplink, Downlink, Si1, Si3, Si4, Si13, Ia}

-- octets of spare padding, 0x2B each
abbrev pub padding : ℕ → List ℕ
padding n = replicate n 43

-- a sample block, the bit at which its field begins, counted from 0, and how many bits the field has
pub record EntrySample : Type 0 where
  pub octets : List ℕ
  pub at : ℕ
  pub width : ℕ

abbrev pub sample_of_entry : Entry → EntrySample
sample_of_entry Uplink = record { octets = (4 ∷ 0 ∷ 0 ∷ 0 ∷ 3 ∷ []) ++ padding 17; at = 6; width = 32 }
sample_of_entry Downlink = record { octets = (16 ∷ 176 ∷ 0 ∷ 0 ∷ 0 ∷ 107 ∷ []) ++ padding 16; at = 10; width = 32 }
sample_of_entry Si1 = record { octets = 131 ∷ []; at = 1; width = 5 }
sample_of_entry Si3 = record { octets = padding 4; at = 6; width = 16 }
sample_of_entry Si4 = record { octets = padding 3; at = 3; width = 16 }
sample_of_entry Si13 =
    record { octets = (144 ∷ 0 ∷ 88 ∷ 64 ∷ 111 ∷ 162 ∷ 160 ∷ 15 ∷ 81 ∷ []) ++ padding 11; at = 10; width = 8 }
sample_of_entry Ia = record { octets = (208 ∷ 0 ∷ 0 ∷ 0 ∷ 0 ∷ []) ++ padding 6; at = 4; width = 32 }

-- the octets of the sample block
abbrev pub sample_octets : Entry → List ℕ
sample_octets entry = (sample_of_entry entry).octets

-- the bit at which the field begins
abbrev pub field_at : Entry → ℕ
field_at entry = (sample_of_entry entry).at

-- how many bits it has
abbrev pub field_width : Entry → ℕ
field_width entry = (sample_of_entry entry).width
