-- How bits that are added one leaf after another are kept: whole octets, and a number whose last bits are the others.
-- (This project's own choice.)
use Rattle.std.specs.Prelude.{ℕ, ◌+◌, ◌*◌, ◌<◌, ◌≤◌, List, ◌++◌, length}
use Rattle.csn_bits.specs.Octets.{most_bits, bits_of_octets}
use Rattle.csn_bits.specs.Numbers.{low_bits}
use Rattle.csn_bits.specs.declared.packed.PackedBits.TheInside.{Inside}

abbrev pub packed_bits : Inside → List ℕ
packed_bits b = bits_of_octets b.octets.items ++ low_bits b.held b.last

pub record IsPackedBits (b : Inside) : Type 0 where
  pub few : 8 * length b.octets.items + b.held ≤ most_bits
  pub part : b.held < 8
