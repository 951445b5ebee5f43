-- The ways that trees can go at a node, and which of them a tree goes. (This project's own choice.)
use Rattle.std.specs.Prelude.{◌≡◌, ℕ, ◌+◌, ◌<◌, List, length, slice_get, slice_index, Some, min}
use Rattle.csn_desc.specs.declared.node.Count.TheVariants.{Counted}
use Rattle.csn_desc.specs.declared.node.Node.{Node}
use Rattle.csn_desc.specs.declared.node.Node.TheVariants.{Field, Seq, Choice, Times, Many, Trunc, Window, Named}
use Rattle.csn_desc.specs.TreeV.{TreeV, bits, row, alt, named, trees_of}
use Rattle.csn_desc.specs.Nodes.{DescV}

-- how many ways there are at a node
abbrev pub ways : Node → ℕ
ways (Choice parts) = length parts
ways (Trunc parts) = length parts + 1
ways (Many i) = 3
ways (Times (Counted m field c) i) = 3
ways (Field unit count) = 2
ways _ = 0

-- there are some bits, and each of them is this one
abbrev pub AreAll : ℕ → List ℕ → Type 0
AreAll bit b = (0 < length b) × ((k : ℕ) → k < length b → slice_index b k ≡ bit)

-- a tree is a row, and so many trees are in it; of a repetition 2 is any number from 2 on
abbrev pub HasTrees : TreeV → ℕ → Type 0
HasTrees tree count = (rows : List TreeV) × (tree ≡ row (trees_of rows)) × (length rows ≡ count)

abbrev pub HasTurns : TreeV → ℕ → Type 0
HasTurns tree way = (rows : List TreeV) × (tree ≡ row (trees_of rows)) × (min (length rows) 2 ≡ way)

-- a tree goes the way with this number: of a choice the alternative, of a truncation how many components, of a
-- repetition how many turns, and of a field the one value that all its bits have
abbrev pub Goes : Node → TreeV → ℕ → Type 0
Goes (Choice parts) tree way = (inside : TreeV) × (tree ≡ alt way inside)
Goes (Trunc parts) tree way = HasTrees tree way
Goes (Many i) tree way = HasTurns tree way
Goes (Times count i) tree way = HasTurns tree way
Goes (Field unit count) tree way = (b : List ℕ) × (tree ≡ bits b) × AreAll way b
Goes _ tree way = ⊥

-- a tree goes one of the ways that there are at a node
abbrev pub GoesOne : Node → TreeV → ℕ → Type 0
GoesOne node tree way = Goes node tree way × (way < ways node)

-- ---- where trees are in a tree

-- the tree with this number in a row is that of this part
abbrev pub IsInRow : List ℕ → TreeV → ℕ → TreeV → Type 0
IsInRow parts tree part inside =
    (rows : List TreeV) × (k : ℕ) × (tree ≡ row (trees_of rows)) × (slice_get parts k ≡ Some part)
    × (slice_get rows k ≡ Some inside)

-- a tree in a row is that of the one part that is repeated
abbrev pub IsTurn : ℕ → TreeV → ℕ → TreeV → Type 0
IsTurn i tree part inside =
    (rows : List TreeV) × (k : ℕ) × (tree ≡ row (trees_of rows)) × (part ≡ i) × (slice_get rows k ≡ Some inside)

-- right inside a tree at a node is this tree at this part
abbrev pub IsInside : Node → TreeV → ℕ → TreeV → Type 0
IsInside (Choice parts) tree part inside = (k : ℕ) × (tree ≡ alt k inside) × (slice_get parts k ≡ Some part)
IsInside (Seq parts) tree part inside = IsInRow parts tree part inside
IsInside (Trunc parts) tree part inside = IsInRow parts tree part inside
IsInside (Times count i) tree part inside = IsTurn i tree part inside
IsInside (Many i) tree part inside = IsTurn i tree part inside
IsInside (Window unit count i) tree part inside = (part ≡ i) × (tree ≡ inside)
IsInside (Named label i) tree part inside = (part ≡ i) × (other : List ℕ) × (tree ≡ named other inside)
IsInside _ tree part inside = ⊥

module _ (d : DescV) where
  -- in a tree at node i this tree is at node j
  pub data Stands : ℕ → TreeV → ℕ → TreeV → Type 0 where
    stands_here : {i j : ℕ} {tree at : TreeV} → j ≡ i → at ≡ tree → Stands i tree j at
    stands_inside :
        {i j : ℕ} {tree at : TreeV}
        (node : Node) (part : ℕ) (inside : TreeV)
        → slice_get d.nodes i ≡ Some node → IsInside node tree part inside → Stands part inside j at
        → Stands i tree j at

  -- somewhere in a tree at node i, node j goes this way
  pub record Meets (i : ℕ) (tree : TreeV) (j way : ℕ) : Type 0 where
    pub node : Node
    pub at : TreeV
    pub node_is : slice_get d.nodes j ≡ Some node
    pub stands : Stands i tree j at
    pub goes : GoesOne node at way
