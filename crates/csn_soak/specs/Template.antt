-- What the blocks of a sample are made from. (This project's own choice.)
use Rattle.std.specs.Prelude.{◌≡◌, ℕ, ◌+◌, ◌*◌, ◌^◌, ◌<◌, ◌≤◌, List, length, take, drop}
use Rattle.csn_bits.specs.Octets.{bits_of_octets}
use Rattle.csn_bits.specs.Numbers.{low_bits}
use Rattle.csn_catalogue.specs.declared.sample.Sample.{Sample}
use Rattle.csn_soak.specs.declared.template.Template.TheInside.{Inside}

-- a sample, and the bits of a block that was made from it
pub record Made : Type 0 where
  pub sample : Sample
  pub bits : List ℕ

abbrev pub made_of : Inside → Made
made_of t = record { sample = t.sample; bits = bits_of_octets t.octets.items }

pub record IsTemplate (t : Inside) : Type 0 where
  pub some : 0 < t.sample.width
  pub narrow : t.sample.width ≤ 32
  pub ends : t.sample.at + t.sample.width + t.left ≡ 8 * t.many
  pub part : t.left < 8
  pub near : t.many ≤ 8
  pub within : t.many ≤ length t.sample.octets.now
  pub count : length t.octets.items ≡ length t.sample.octets.now
  pub octets : drop t.many t.octets.items ≡ drop t.many t.sample.octets.now
  pub before : low_bits t.sample.at t.before ≡ take t.sample.at (bits_of_octets t.sample.octets.now)
  pub behind : low_bits t.left t.behind ≡ take t.left (drop (t.sample.at + t.sample.width) (bits_of_octets t.sample.octets.now))
  pub small : t.behind < 2 ^ t.left
