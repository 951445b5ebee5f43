-- What the bits of a tree are, and what is told where there are none. (This project's own choice.)
use Rattle.std.specs.Prelude.{◌≤◌, List, ℕ, [], length}
use Rattle.csn_bits.specs.Octets.{most_bits}
use Rattle.csn_desc.specs.TreeV.{TreeV}
use Rattle.csn_desc.specs.Nodes.{DescV}
use Rattle.csn_desc.specs.Means.{NMeans}
use Rattle.csn_encode.specs.declared.misfit.MisfitWhy.{MisfitWhy}
use Rattle.csn_encode.specs.declared.fault.EncodeFault.{EncodeFault}
use Rattle.csn_encode.specs.declared.fault.EncodeFault.TheVariants.{Misfit, NoMemory}
use Rattle.csn_encode.specs.Misfits.{IsMisfit}

-- a block of these bits has the tree
pub record IsBlockOf (d : DescV) (t : TreeV) (b : List ℕ) : Type 0 where
  pub means : NMeans d 0 0 [] b t
  pub within : length b ≤ most_bits

-- no block has the tree
abbrev pub HasNoBlock : DescV → TreeV → Type 0
HasNoBlock d t = (b : List ℕ) → ¬ IsBlockOf d t b

-- the tree misses nowhere
abbrev pub HasNoMisfit : DescV → TreeV → Type 0
HasNoMisfit d t = (path : List ℕ) (why : MisfitWhy) → ¬ IsMisfit d t path why

-- a tree that no block has, with its first misfit; of want of memory nothing is said
abbrev pub IsFaultOf : DescV → TreeV → EncodeFault → Type 0
IsFaultOf d t (Misfit misfit) = IsMisfit d t misfit.path misfit.why × HasNoBlock d t
IsFaultOf d t NoMemory = Unit {0}
