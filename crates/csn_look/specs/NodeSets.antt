-- What the sets that are kept of a node say.
use Rattle.std.specs.Prelude.{◌≡◌, ℕ, ◌+◌, ◌%◌, ◌≤◌, ◌<◌, ◌↔◌, Bool, true, false, List, [], length, slice_get, Some, IsTrue}
use Rattle.std.specs.Ordering.{nat_cmp}
use Rattle.std.specs.FinSet as set
use Rattle.csn_desc.specs.declared.node.Node.{Node}
use Rattle.csn_desc.specs.Nodes.{DescV}
use Rattle.csn_look.specs.declared.node_sets.NodeSets.{NodeSets}
use Rattle.csn_look.specs.declared.word.TheConstants.{MOST_WORD}
use Rattle.csn_look.specs.Told.{OctetsAre}
use Rattle.csn_look.specs.Sums.{Has}
use Rattle.csn_look.specs.Nullable.{Nullable, NodeNullable}
use Rattle.csn_look.specs.Ends.{InEnds, NodeEnds}
use Rattle.csn_look.specs.Starts.{InStart, NodeStarts}
use Rattle.csn_look.specs.Keys.{InKeys, NodeKeys}

-- one of the lengths, which count modulo 8, leads from the octet position o to the octet position p
pub record Reaches (lengths : set.FinSet nat_cmp) (o p : ℕ) : Type 0 where
  pub length : ℕ
  pub small : length ≤ 7
  pub has_length : Has lengths length
  pub is : p ≡ (o + length) % 8

-- the lengths lead from each octet position to those with the fact
abbrev pub LengthsAre : set.FinSet nat_cmp → (ℕ → ℕ → Type 0) → Type 0
LengthsAre lengths Ends = (o p : ℕ) → o ≤ 7 → Reaches lengths o p ↔ Ends o p

-- the sets tell whether there may be no bits, where bits end, with which bit they begin and how the empty
-- word is a key, whole where the mark is true
pub record Tell (sets : NodeSets) (Null : Type 0) (Ends Starts : ℕ → ℕ → Type 0) (Empty : Bool → Type 0) : Type 0 where
  pub nullable : IsTrue sets.nullable ↔ Null
  pub whole_empty : IsTrue sets.whole_empty ↔ Empty true
  pub cut_empty : IsTrue sets.cut_empty ↔ Empty false
  pub lengths : LengthsAre sets.lengths Ends
  pub zero : OctetsAre sets.zero (λ o. Starts o 0)
  pub one : OctetsAre sets.one (λ o. Starts o 1)

module _ (d : DescV) where
  -- they are those of the node with this number, and of a node
  abbrev pub SetsAre : ℕ → NodeSets → Type 0
  SetsAre i sets = Tell sets (Nullable d i) (InEnds d i) (InStart d i) (λ mark. InKeys d MOST_WORD i 0 [] mark)

  abbrev pub NodeSetsAre : Node → NodeSets → Type 0
  NodeSetsAre n sets = Tell sets (NodeNullable d n) (NodeEnds d n) (NodeStarts d n) (λ mark. NodeKeys d MOST_WORD n 0 [] mark)

  -- the list holds the sets of node i, and those of some parts
  abbrev pub IsKnown : List NodeSets → ℕ → Type 0
  IsKnown known i = (sets : NodeSets) × (slice_get known i ≡ Some sets) × SetsAre i sets

  abbrev pub AreKnown : List NodeSets → List ℕ → Type 0
  AreKnown known parts = (j i : ℕ) → slice_get parts j ≡ Some i → IsKnown known i

  -- it holds the sets of all nodes
  pub record IsLookOf (look : List NodeSets) : Type 0 where
    pub same : length look ≡ length d.nodes
    pub known : (i : ℕ) → i < length d.nodes → IsKnown look i
