-- Where the parts of one node are reached from where the node is.
use Rattle.std.specs.Prelude.{◌≡◌, ℕ, ◌<◌, ◌≤◌, List, length, take, slice_get, Some}
use Rattle.std.specs.Ordering.{nat_cmp}
use Rattle.std.specs.FinSet as set
use Rattle.csn_desc.specs.declared.node.Node.{Node}
use Rattle.csn_desc.specs.Nodes.{DescV, parts_of}
use Rattle.csn_look.specs.Sums.{Has}
use Rattle.csn_look.specs.Reached.{PartReached}
use Rattle.csn_look.specs.ReachV.{HasAt}

-- the part p at the place j of the node is reached at the octet position o, from one of the set
pub record IsStep (d : DescV) (n : Node) (from : set.FinSet nat_cmp) (j p o : ℕ) : Type 0 where
  pub begin : ℕ
  pub low : begin ≤ 7
  pub has_begin : Has from begin
  pub step : PartReached d n (take j (parts_of n)) p begin o

-- the list has for each part of the node where it is so reached
abbrev pub HasSteps : DescV → Node → set.FinSet nat_cmp → List (set.FinSet nat_cmp) → Type 0
HasSteps d n from sets = (j p : ℕ) → slice_get (parts_of n) j ≡ Some p → HasAt sets p (IsStep d n from j p)

-- the node has no part twice, and each is one of so many nodes
abbrev pub HasPartsBelow : Node → ℕ → Type 0
HasPartsBelow n count = (j p : ℕ) → slice_get (parts_of n) j ≡ Some p → p < count

abbrev pub HasPartsOnce : Node → Type 0
HasPartsOnce n = (j k p : ℕ) → slice_get (parts_of n) j ≡ Some p → slice_get (parts_of n) k ≡ Some p → j ≡ k

-- what stands where a node hands down to its parts: a list has so many nodes, and look-ahead knows so many
pub record HandsTo (n : Node) (nodes sets : ℕ) : Type 0 where
  pub once : HasPartsOnce n
  pub below : HasPartsBelow n nodes
  pub known : HasPartsBelow n sets

-- what the list has for what is no part of the node stays
abbrev pub KeepsOthers : {A : Type 0} → Node → List A → List A → Type 0
KeepsOthers n old new = (i : ℕ) → ((j : ℕ) → slice_get (parts_of n) j ≡ Some i → ⊥) → slice_get new i ≡ slice_get old i

-- the list has for node i what is right there, and for each of so many nodes
abbrev pub HasRight : {A : Type 0} → (ℕ → A → Type 0) → List A → ℕ → Type 0
HasRight {A} Right table i = (a : A) × (slice_get table i ≡ Some a) × Right i a

pub record AreRight {A : Type 0} (Right : ℕ → A → Type 0) (count : ℕ) (table : List A) : Type 0 where
  pub same : length table ≡ count
  pub right : (i : ℕ) → i < count → HasRight Right table i
