-- Which ways some blocks go. (This project's own choice.)
use Rattle.std.specs.Prelude.{◌≡◌, ℕ, ◌+◌, ◌<◌, ◌⊎◌, ◌↔◌, Bool, true, false, List, [], length, slice_get, slice_index_or, Option, Some, None, IfSome}
use Rattle.std.specs.Prelude.{Contains}
use Rattle.csn_desc.specs.declared.node.Node.{Node}
use Rattle.csn_desc.specs.TreeV.{TreeV}
use Rattle.csn_desc.specs.Nodes.{DescV}
use Rattle.csn_desc.specs.Formed.{Formed}
use Rattle.csn_sample.specs.declared.covering.Way.{Way}
use Rattle.csn_sample.specs.declared.covering.Example.{Example}
use Rattle.csn_sample.specs.declared.wish.Length.TheVariants.{AtMost}
use Rattle.csn_sample.specs.Samples.{IsSample}
use Rattle.csn_sample.specs.Ways.{ways, IsInside, Meets}

-- ---- what is told

-- the block is a string of at most so many bits, and goes the way that it is told for
pub record IsExample (d : DescV) (most : ℕ) (told : Example) : Type 0 where
  pub string : IsSample d (AtMost most) told.sampled
  pub goes : Meets d 0 told.sampled.tree told.way.node told.way.number

-- some block that is told goes this way
pub record IsMet (d : DescV) (told : List Example) (i way : ℕ) : Type 0 where
  pub block : Example
  pub told_is : Contains told block
  pub meets : Meets d 0 block.sampled.tree i way

-- each way at each node is told as one that is not met, or some block goes it; and none that is told so is met
pub record AreTold (d : DescV) (told : List Example) (unmet : List Way) : Type 0 where
  pub each :
      (i way : ℕ) (node : Node) → slice_get d.nodes i ≡ Some node → way < ways node
      → Contains unmet (record { node = i; number = way }) ⊎ IsMet d told i way
  pub none : (way : Way) → Contains unmet way → ¬ IsMet d told way.node way.number

-- ---- marks, a list for each node

-- this mark is set
abbrev pub IsMarked : List (List Bool) → ℕ → ℕ → Type 0
IsMarked marks i way = slice_index_or (slice_index_or marks i []) way false ≡ true

-- how many marks a node has
abbrev pub marks_at : List (List Bool) → ℕ → ℕ
marks_at marks i = length (slice_index_or marks i [])

-- there is a mark for each way of each node
abbrev pub HasMarks : DescV → List (List Bool) → Type 0
HasMarks d marks = (i : ℕ) (node : Node) → slice_get d.nodes i ≡ Some node → marks_at marks i ≡ ways node

-- the marks of the ways for which P is are set, and no others; what is told is a new one, where there is one
pub record Sets (old new : List (List Bool)) (P : ℕ → ℕ → Type 0) (told : Option Way) : Type 0 where
  pub as_many : (i : ℕ) → marks_at new i ≡ marks_at old i
  pub marks : (i way : ℕ) → IsMarked new i way ↔ (IsMarked old i way ⊎ P i way)
  pub first : IfSome told (λ way. IsMarked new way.node way.number × ¬ IsMarked old way.node way.number)
  pub same : told ≡ None → new ≡ old

-- the set marks are those of the ways that some block goes
abbrev pub AreMet : DescV → List Example → List (List Bool) → Type 0
AreMet d told marks = (i way : ℕ) → IsMarked marks i way ↔ IsMet d told i way

-- the first so many ways of a node are told, or marked; what was told before is told; and what is told besides is not marked
pub record IsUnmetWith (i count : ℕ) (marks : List (List Bool)) (old new : List Way) : Type 0 where
  pub each : (way : ℕ) → way < count → Contains new (record { node = i; number = way }) ⊎ IsMarked marks i way
  pub kept : (way : Way) → Contains old way → Contains new way
  pub none : (way : Way) → Contains new way → Contains old way ⊎ ¬ IsMarked marks way.node way.number

-- each way of the first so many nodes is told as one that is not met, or is marked; and none that is told is marked
pub record AllUnmet (d : DescV) (count : ℕ) (unmet : List Way) (marks : List (List Bool)) : Type 0 where
  pub each :
      (i way : ℕ) (node : Node) → i < count → slice_get d.nodes i ≡ Some node → way < ways node
      → Contains unmet (record { node = i; number = way }) ⊎ IsMarked marks i way
  pub none : (way : Way) → Contains unmet way → ¬ IsMarked marks way.node way.number

-- ---- trees that are gone through

-- at node i, inside which so many others may be, there is room for it and all that is inside it
pub record HasRoom (d : DescV) (deep i : ℕ) : Type 0 where
  pub seen : List ℕ
  pub round : ℕ
  pub deep_is : round + deep ≡ 64
  pub formed : Formed d.nodes seen round i

-- right inside a tree at a node there is one that goes this way
pub record MeetsInside (d : DescV) (node : Node) (tree : TreeV) (i way : ℕ) : Type 0 where
  pub part : ℕ
  pub inside : TreeV
  pub is_inside : IsInside node tree part inside
  pub meets : Meets d part inside i way

-- one of the first so many trees of a row, each of which is that of such a part, goes this way
pub record MeetsFew (d : DescV) (IsPart : ℕ → ℕ → Type 0) (rows : List TreeV) (count i way : ℕ) : Type 0 where
  pub at : ℕ
  pub part : ℕ
  pub inside : TreeV
  pub within : at < count
  pub part_is : IsPart at part
  pub inside_is : slice_get rows at ≡ Some inside
  pub meets : Meets d part inside i way
