-- The numbers of alternatives, and how they are gathered.
use Rattle.std.specs.Prelude.{◌≡◌, ℕ, ◌<◌, List, length, slice_get, Option, Some}
use Rattle.csn_desc.specs.declared.node.Node.TheVariants.{Choice}
use Rattle.csn_desc.specs.Nodes.{DescV}

-- behind the first parts of a choice: node i has the number that it had, and is none of them, or has that of its place
-- among the parts
pub data Numbered (parts : List ℕ) (upto : ℕ) (old new : List (Option ℕ)) (i : ℕ) : Type 0 where
  number_kept :
      slice_get new i ≡ slice_get old i → ((k : ℕ) → k < upto → slice_get parts k ≡ Some i → ⊥) → Numbered parts upto old new i
  number_given : (k : ℕ) → slice_get parts k ≡ Some i → slice_get new i ≡ Some (Some k) → Numbered parts upto old new i

-- the node is the alternative k of some choice
pub record IsAlternative (d : DescV) (i k : ℕ) : Type 0 where
  pub choice : ℕ
  pub parts : List ℕ
  pub there : slice_get d.nodes choice ≡ Some (Choice parts)
  pub part : slice_get parts k ≡ Some i

-- for each node its number, where it is an alternative of one of the first nodes
pub record AreNumbers (d : DescV) (upto : ℕ) (numbers : List (Option ℕ)) : Type 0 where
  pub all : length numbers ≡ length d.nodes
  pub given :
      (c k i : ℕ) (parts : List ℕ) → c < upto → slice_get d.nodes c ≡ Some (Choice parts) → slice_get parts k ≡ Some i
      → slice_get numbers i ≡ Some (Some k)
  pub only : (i k : ℕ) → slice_get numbers i ≡ Some (Some k) → IsAlternative d i k

-- the number of node i; 0 where it is no alternative
abbrev pub number_at : Option (Option ℕ) → ℕ
number_at (Some (Some k)) = k
number_at _ = 0

-- the table has the numbers of all alternatives of a description
abbrev pub HasNumbers : DescV → List (Option ℕ) → Type 0
HasNumbers d numbers = AreNumbers d (length d.nodes) numbers
