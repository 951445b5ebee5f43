-- The least set that an equation allows: what it makes in some number of rounds, each from what the round before it made,
-- and the first from nothing. (This project's own choice.)
use Rattle.std.specs.Prelude.{◌≡◌, ℕ, zero, suc, slice_get, Some}
use Rattle.csn_desc.specs.declared.node.Node.{Node}
use Rattle.csn_desc.specs.Nodes.{DescV}

module _ {A : Type 0} (Makes : (A → Type 0) → A → Type 0) where
  -- what so many rounds make
  abbrev pub Rounds : ℕ → A → Type 0
  Rounds zero a = ⊥
  Rounds (suc k) a = Makes (Rounds k) a

  pub record Least (a : A) : Type 0 where
    pub rounds : ℕ
    pub made : Rounds rounds a

-- there is a node i, and it has the fact
pub record NodeHas (d : DescV) (i : ℕ) (P : Node → Type 0) : Type 0 where
  pub node : Node
  pub at : slice_get d.nodes i ≡ Some node
  pub has : P node
