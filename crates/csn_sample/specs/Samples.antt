-- What is told of blocks that are made to order. (This project's own choice.)
use Rattle.std.specs.Prelude.{◌≡◌, ℕ, ◌+◌, ◌*◌, ◌/◌, ◌≤◌, List, [], length, max}
use Rattle.csn_desc.specs.Nodes.{DescV}
use Rattle.csn_desc.specs.TreeV.{TreeV}
use Rattle.csn_desc.specs.Means.{NMeans}
use Rattle.csn_sample.specs.declared.wish.Length.{Length}
use Rattle.csn_sample.specs.declared.wish.Length.TheVariants.{Exactly, AtMost}
use Rattle.csn_sample.specs.declared.sampler.Sampled.{Sampled}

-- the block is a string of the description: it has this tree, and no other
pub record HasTree (d : DescV) (block : List ℕ) (tree : TreeV) : Type 0 where
  pub means : NMeans d 0 0 [] block tree
  pub only : (other : TreeV) → NMeans d 0 0 [] block other → other ≡ tree

-- so many bits are as many as were asked for
abbrev pub Fits : Length → ℕ → Type 0
Fits (Exactly wanted) bits = bits ≡ wanted
Fits (AtMost most) bits = bits ≤ most

abbrev pub most_of : Length → ℕ
most_of (Exactly wanted) = wanted
most_of (AtMost most) = most

-- a block that is told has the tree that is told with it, and as many bits as were asked for
pub record IsSample (d : DescV) (asked : Length) (told : Sampled) : Type 0 where
  pub tree : HasTree d told.block told.tree
  pub length : Fits asked (length told.block)

-- a block that is told without its tree has one, and as many bits as were asked for
pub record IsBlock (d : DescV) (asked : Length) (block : List ℕ) : Type 0 where
  pub tree : TreeV
  pub has : HasTree d block tree
  pub length : Fits asked (length block)

-- how many nodes begin in a draw of a block, at most
abbrev pub begun : (nodes bits : ℕ) → ℕ
begun nodes bits = 4 * nodes + 64 * (bits + 1)

-- how many steps one draw of a block takes, at most: those of the draw, and those of its judge
abbrev pub work : (nodes bits : ℕ) → ℕ
work nodes bits = begun nodes bits + 8 * nodes * (bits + 1)

-- how many blocks are drawn to cover a description, at most, of so many bits each: together they have 200,000,000
abbrev pub draws : (bits : ℕ) → ℕ
draws bits = 200000000 / max bits 200

-- how many steps it takes to cover a description, at most: those of the draws, behind each of which another way may have its
-- turn, and a few for each node
abbrev pub cover_work : (nodes bits : ℕ) → ℕ
cover_work nodes bits = draws bits * (work nodes bits + 2 * nodes) + 5 * nodes
