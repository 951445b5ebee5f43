-- Which trees have a text. The bounds are this project's own.
use Rattle.std.specs.Prelude.{ℕ, suc, ◌<◌}
use Rattle.csn_treetext.specs.declared.bounds.TheConstants.{MOST_LEVELS}
use Rattle.csn_desc.specs.declared.desc.TheConstants.{MOST_NODES}
use Rattle.csn_desc.specs.TreeV.{TreeV, empty, bits, row, alt, named, Trees, none, more}

-- a tree with `round` levels round it reaches down to level 64 at most, where the outermost is level 1,
-- and its alternatives have numbers below 16,384
abbrev mutual
  pub FitsInside : ℕ → TreeV → Type 0
  FitsInside round empty = round < MOST_LEVELS
  FitsInside round (bits b) = round < MOST_LEVELS
  FitsInside round (row ts) = (round < MOST_LEVELS) × AllFitInside (suc round) ts
  FitsInside round (alt j t) = (j < MOST_NODES) × FitsInside (suc round) t
  FitsInside round (named l t) = FitsInside (suc round) t

  pub AllFitInside : ℕ → Trees → Type 0
  AllFitInside round none = Unit {0}
  AllFitInside round (more t ts) = FitsInside round t × AllFitInside round ts

-- the tree has at most 64 levels, and alternatives below 16,384
abbrev pub Fits : TreeV → Type 0
Fits t = FitsInside 0 t
