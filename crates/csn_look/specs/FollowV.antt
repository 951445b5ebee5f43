-- What may follow all nodes of a description, as it is kept: for each node and sign the octet positions at
-- which the node may end before it.
use Rattle.std.specs.Prelude.{◌≡◌, ℕ, suc, ◌<◌, ◌≤◌, ◌⊎◌, ◌↔◌, Bool, true, false, List, length, drop, slice_get, Option, Some, None, IsTrue}
use Rattle.std.specs.FinSet as set
use Rattle.csn_desc.specs.declared.node.Node.{Node}
use Rattle.csn_desc.specs.declared.node.Node.TheVariants.{Seq, Trunc}
use Rattle.csn_desc.specs.Nodes.{DescV, parts_of}
use Rattle.csn_look.specs.declared.following.Following.{Following}
use Rattle.csn_look.specs.declared.node_sets.NodeSets.{NodeSets}
use Rattle.csn_look.specs.declared.symbol_set.Sign.{Sign}
use Rattle.csn_look.specs.SignsV.{SignsV}
use Rattle.csn_look.specs.Signs.{bit_of_sign}
use Rattle.csn_look.specs.Told.{OctetsAre, FollowHas}
use Rattle.csn_look.specs.Sums.{Has}
use Rattle.csn_look.specs.Reached.{InFollow, PartFollow}

-- the sets say where which sign may follow
pub record SaysFollow (sets : Following) (P : ℕ → Option ℕ → Type 0) : Type 0 where
  pub zero : OctetsAre sets.zero (λ o. P o (Some 0))
  pub one : OctetsAre sets.one (λ o. P o (Some 1))
  pub end : OctetsAre sets.end (λ o. P o None)

-- the list has for node i sets that say so
abbrev pub HasFollow : List Following → ℕ → (ℕ → Option ℕ → Type 0) → Type 0
HasFollow table i P = (sets : Following) × (slice_get table i ≡ Some sets) × SaysFollow sets P

-- a sequence, or a truncation where the parts may end early
abbrev pub in_order : Bool → List ℕ → Node
in_order false parts = Seq parts
in_order true parts = Trunc parts

module _ (d : DescV) where
  -- the sets say what may follow node k, and the list what may follow each part of it
  abbrev pub FollowsAre : ℕ → Following → Type 0
  FollowsAre k sets = SaysFollow sets (InFollow d k)

  abbrev pub HasFollows : Node → ℕ → List Following → Type 0
  HasFollows n k table =
      (j p : ℕ) → slice_get (parts_of n) j ≡ Some p
      → HasFollow table p (PartFollow d n k (drop (suc j) (parts_of n)) p)

  -- the same of parts one after another, which may end early as those of a truncation
  abbrev pub HasFollowsInOrder : Bool → List ℕ → ℕ → List Following → Type 0
  HasFollowsInOrder ends_early parts k table =
      (j p : ℕ) → slice_get parts j ≡ Some p
      → HasFollow table p (PartFollow d (in_order ends_early parts) k (drop (suc j) parts) p)

  -- it says what may follow each node
  pub record IsFollowOf (table : List Following) : Type 0 where
    pub same : length table ≡ length d.nodes
    pub follows : (i : ℕ) → i < length d.nodes → HasFollow table i (InFollow d i)

-- what may stand before the rest: what the rest may begin with, and what may follow it where it may have
-- no bits
pub record IsBehind (rest : NodeSets) (above sets : Following) : Type 0 where
  pub zero : OctetsAre sets.zero (λ o. Has rest.zero o ⊎ (IsTrue rest.nullable × Has above.zero o))
  pub one : OctetsAre sets.one (λ o. Has rest.one o ⊎ (IsTrue rest.nullable × Has above.one o))
  pub end : OctetsAre sets.end (λ o. IsTrue rest.nullable × Has above.end o)

-- the signs that may follow at an octet position
abbrev pub signs_at : Following → ℕ → SignsV
signs_at sets o = record { zero = set.contains sets.zero o; one = set.contains sets.one o; end = set.contains sets.end o }

-- for each octet position the sets have the signs that may follow there
abbrev pub IsFollow : List SignsV → (ℕ → Option ℕ → Type 0) → Type 0
IsFollow sets P = (o : ℕ) (sign : Sign) → o ≤ 7 → FollowHas sets o (bit_of_sign sign) ↔ P o (bit_of_sign sign)
