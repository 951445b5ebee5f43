-- What is still to come of a block, from a source of bits.
use Rattle.std.specs.Prelude.{ℕ, ◌+◌, ◌*◌, ◌<◌, ◌≤◌, Bool, true, List, [], ◌++◌, length, take, drop, get_or, ◌≡◌}
use Rattle.csn_bits.specs.Octets.{IsBits, bits_of_octets}
use Rattle.csn_bits.specs.Numbers.{low_bits}
use Rattle.csn_judge.specs.declared.source.Source.TheInside.{Inside}

-- the bits that come, how many of them are held ready, the places in the block of the first of them and where the
-- innermost window ends, and whether the block ends behind them
pub record Coming : Type 0 where
  pub bits : List ℕ
  pub held : ℕ
  pub place : ℕ
  pub limit : ℕ
  pub ended : Bool

-- each of them is an octet
abbrev pub AreOctets : List ℕ → Type 0
AreOctets octets = (k : ℕ) → get_or octets k 0 < 256

-- the first bits of the octets from a place on
abbrev pub bits_from : List ℕ → ℕ → ℕ → List ℕ
bits_from octets at left = take left (bits_of_octets (drop at octets))

abbrev pub coming_of : Inside → Coming
coming_of s =
    record {
      bits = low_bits s.held.count s.held.number ++ bits_from s.piece.now s.at s.left;
      held = s.held.count;
      place = s.place;
      limit = s.limit;
      ended = s.ended;
    }

pub record IsSource (s : Inside) : Type 0 where
  pub octets : AreOctets s.piece.now
  pub few : s.held.count ≤ 63
  pub within : 8 * s.at + s.left ≤ 8 * length s.piece.now
  pub fits : s.place + s.held.count + s.left < 4294967295
  pub inside : s.place ≤ s.limit
  pub nothing : s.ended ≡ true → s.held.count + s.left ≡ 0

-- what comes next of a block, that no bit is taken of
pub record IsSame (old new : Coming) : Type 0 where
  pub bits : new.bits ≡ old.bits
  pub place : new.place ≡ old.place
  pub limit : new.limit ≡ old.limit
  pub ended : new.ended ≡ old.ended

-- so many bits are taken of what comes next of a block
pub record IsTaken (n : ℕ) (old new : Coming) : Type 0 where
  pub bits : new.bits ≡ drop n old.bits
  pub place : new.place ≡ old.place + n
  pub limit : new.limit ≡ old.limit
  pub ended : new.ended ≡ old.ended

-- bits that may come, at their places
pub record IsGood (coming : Coming) : Type 0 where
  pub bits : IsBits coming.bits
  pub fits : coming.place + length coming.bits < 4294967295
  pub inside : coming.place ≤ coming.limit
  pub nothing : coming.ended ≡ true → coming.bits ≡ []
