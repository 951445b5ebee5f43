-- What holds of the nodes of a description while it is built: those that were left are laid out behind one
-- another, and the heads of those that were not are well formed.
use Rattle.std.specs.Prelude.{◌≡◌, ℕ, suc, ◌<◌, ◌≤◌, ◌⊎◌, false, List, [], ◌∷◌, ◌++◌, length, slice_get, Some}
use Rattle.csn_desc.specs.declared.node.Node.{Node}
use Rattle.csn_desc.specs.Nodes.{head_of, parts_of}
use Rattle.csn_desc.specs.Building.{node_of, begun_parts}
use Rattle.csn_desc.specs.Formed.{IsHead, shows_earlier}
use Rattle.csn_desc.specs.Laid.{PartsLaid, seen_behind}

module _ (nodes : List Node) where
  -- the next node of `around`, which has the number i, is the part after these of the innermost one
  abbrev pub IsPartAfter : List ℕ → List ℕ → ℕ → Type 0
  IsPartAfter [] before i = before ≡ []
  IsPartAfter (above ∷ rest) before i =
      (n : Node) × (slice_get nodes above ≡ Some n) × (parts_of n ≡ before ++ i ∷ [])

  -- the nodes `around` were not left, the innermost first; `parts` are the parts of the innermost that were, and
  -- what comes next has the number `end` and sees `seen`
  pub data Chain : List ℕ → ℕ → List ℕ → List ℕ → Type 0 where
    chain_out :
        {end : ℕ} {parts seen : List ℕ}
        → PartsLaid nodes false [] 0 parts 0 end → seen ≡ [] → Chain [] end parts seen
    chain_in :
        {i end : ℕ} {rest parts seen : List ℕ}
        (n : Node) (before round : List ℕ) → Chain rest i before round → IsPartAfter rest before i
        → slice_get nodes i ≡ Some n → length rest < 64 → IsHead nodes round (head_of n)
        → PartsLaid nodes (shows_earlier n) round (suc (length rest)) parts (suc i) end
        → seen ≡ seen_behind nodes (shows_earlier n) parts round
        → Chain (i ∷ rest) end parts seen

  -- these are the parts of the innermost node, or of what stands outside of all
  abbrev pub AreParts : List ℕ → List ℕ → ℕ → Type 0
  AreParts [] parts end = ((parts ≡ []) × (end ≡ 0)) ⊎ (parts ≡ 0 ∷ [])
  AreParts (i ∷ rest) parts end =
      (n : Node) × (slice_get nodes i ≡ Some n) × (parts ≡ begun_parts nodes i n)
      × (end ≤ suc i → n ≡ node_of (head_of n) (suc i))

-- what a builder's nodes and the numbers of those that were not left are
pub record Stands (nodes : List Node) (around : List ℕ) : Type 0 where
  pub few : length nodes ≤ 16384
  pub parts : List ℕ
  pub seen : List ℕ
  pub chain : Chain nodes around (length nodes) parts seen
  pub are_parts : AreParts nodes around parts (length nodes)
