-- Nodes that are well formed where they stand, whatever counted fields some count sees: of those, `Overfull`
-- tells.
use Rattle.std.specs.Prelude.{◌≡◌, ℕ, suc, ◌<◌, List, length, slice_get, Some}
use Rattle.csn_desc.specs.declared.node.Node.{Node}
use Rattle.csn_desc.specs.Nodes.{head_of, parts_of}
use Rattle.csn_desc.specs.Formed.{IsHead, HasParts}
use Rattle.csn_desc.specs.Overfull.{Sees}

module _ (nodes : List Node) where
  -- node i is inside so many others: the root is inside none
  pub data IsInside : ℕ → ℕ → Type 0 where
    inside_none : {i round : ℕ} → i ≡ 0 → round ≡ 0 → IsInside i round
    inside_one :
        {i round : ℕ} (above around j : ℕ) (n : Node)
        → slice_get nodes above ≡ Some n → slice_get (parts_of n) j ≡ Some i → IsInside above around
        → round ≡ suc around → IsInside i round

-- each node has its number of parts and a head that is well formed where it sees what it sees, and at most 64
-- nodes are inside one another
pub record AreWellFormed (nodes : List Node) : Type 0 where
  pub heads : (i : ℕ) (n : Node) (seen : List ℕ) → slice_get nodes i ≡ Some n → Sees nodes i seen → IsHead nodes seen (head_of n)
  pub parts : (i : ℕ) (n : Node) → slice_get nodes i ≡ Some n → HasParts (head_of n) (length (parts_of n))
  pub deep : (i round : ℕ) → IsInside nodes i round → round < 64
