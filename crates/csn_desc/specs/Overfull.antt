-- How many fields may be counted on at one place. The limit is this project's own choice.
use Rattle.std.specs.Prelude.{◌≡◌, ℕ, ◌≤◌, Bool, IsTrue, List, [], ◌∷◌, slice_get, Some, count_by}
use Rattle.csn_desc.specs.declared.node.Node.{Node}
use Rattle.csn_desc.specs.Nodes.{parts_of}
use Rattle.csn_desc.specs.Formed.{is_counted, shows_earlier, with_seen}

module _ (nodes : List Node) where
  -- part i, among these parts of a node, sees the labelled parts `seen`: those round the node, and the
  -- earlier ones where the node shows them
  pub data PartSees : Bool → List ℕ → List ℕ → ℕ → List ℕ → Type 0 where
    part_here :
        {shows : Bool} {round parts : List ℕ} {j i : ℕ} {seen : List ℕ}
        → j ≡ i → seen ≡ round → PartSees shows round (j ∷ parts) i seen
    part_later :
        {shows : Bool} {round parts : List ℕ} {j i : ℕ} {seen : List ℕ}
        → PartSees shows (with_seen nodes shows j round) parts i seen → PartSees shows round (j ∷ parts) i seen

  -- node i sees the labelled parts `seen`: those among the earlier parts of the sequences and truncations
  -- round it
  pub data Sees : ℕ → List ℕ → Type 0 where
    sees_none : {i : ℕ} {seen : List ℕ} → i ≡ 0 → seen ≡ [] → Sees i seen
    sees_parts :
        {i above : ℕ} {seen round : List ℕ} (n : Node)
        → slice_get nodes above ≡ Some n → Sees above round
        → PartSees (shows_earlier n) round (parts_of n) i seen → Sees i seen

  -- some count stands on the labelled field with node i, and on 64 of those that it sees
  pub record IsOverfull (i : ℕ) : Type 0 where
    pub counted : IsTrue (is_counted nodes i)
    pub seen : List ℕ
    pub sees : Sees i seen
    pub full : 64 ≤ count_by (is_counted nodes) seen

  -- the first such field
  pub record IsFirstOverfull (i : ℕ) : Type 0 where
    pub overfull : IsOverfull i
    pub first : (j : ℕ) → IsOverfull j → i ≤ j
