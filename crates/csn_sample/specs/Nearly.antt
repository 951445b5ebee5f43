-- Blocks that are nearly strings. (This project's own choice.)
use Rattle.std.specs.Prelude.{◌≡◌, ℕ, ◌-◌, ◌%◌, List, [], ◌∷◌, ◌++◌, take, drop}
use Rattle.csn_desc.specs.Nodes.{DescV}
use Rattle.csn_desc.specs.TreeV.{TreeV}
use Rattle.csn_desc.specs.Means.{NMeans}
use Rattle.csn_desc.specs.Follows.{IsPlace}
use Rattle.csn_sample.specs.declared.change.Change.{Change}
use Rattle.csn_sample.specs.declared.change.Change.TheVariants.{Turned, Cut, Behind, Twice}
use Rattle.csn_sample.specs.declared.near.Near.{Near}

-- the first of some bits turned, if there is one
abbrev pub with_first_turned : List ℕ → List ℕ
with_first_turned [] = []
with_first_turned (bit ∷ rest) = (1 - bit) ∷ rest

-- a block with a change
abbrev pub changed : Change → List ℕ → List ℕ
changed (Turned at) block = take at block ++ with_first_turned (drop at block)
changed (Cut at) block = take at block
changed (Behind bit) block = block ++ (bit % 2) ∷ []
changed (Twice from to) block = take to block ++ drop from block

-- the block has no tree, and so many of its bits can be followed; it is another one with a change
pub record IsNear (d : DescV) (whole : List ℕ) (near : Near) : Type 0 where
  pub made : near.block ≡ changed near.change whole
  pub place : IsPlace d near.block near.place
  pub no_tree : (tree : TreeV) → ¬ NMeans d 0 0 [] near.block tree
