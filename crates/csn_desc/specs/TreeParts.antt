-- What every tree of a program has, whichever bits it belongs to.
use Rattle.std.specs.Prelude.{◌≤◌, length}
use Rattle.csn_bits.specs.Octets.{IsBits, most_bits}
use Rattle.csn_desc.specs.Label.{IsLabel}
use Rattle.csn_desc.specs.TreeV.{TreeV, empty, bits, row, alt, named, Trees, none, more}

-- the leaves are bits, as many as a block has at most, and the labels are labels
abbrev mutual
  pub HasTreeParts : TreeV → Type 0
  HasTreeParts empty = Unit {0}
  HasTreeParts (bits b) = IsBits b × (length b ≤ most_bits)
  HasTreeParts (row ts) = AllHaveTreeParts ts
  HasTreeParts (alt j t) = HasTreeParts t
  HasTreeParts (named l t) = IsLabel l × HasTreeParts t

  pub AllHaveTreeParts : Trees → Type 0
  AllHaveTreeParts none = Unit {0}
  AllHaveTreeParts (more t ts) = HasTreeParts t × AllHaveTreeParts ts
