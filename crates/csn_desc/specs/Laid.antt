-- Nodes that are laid out behind one another: numbered through, and well formed one by one, whatever counted
-- fields some count sees.
use Rattle.std.specs.Prelude.{◌≡◌, ℕ, suc, ◌<◌, Bool, List, [], ◌∷◌, length, slice_get, Some}
use Rattle.csn_desc.specs.declared.node.Node.{Node}
use Rattle.csn_desc.specs.Nodes.{head_of, parts_of}
use Rattle.csn_desc.specs.Formed.{IsHead, HasParts, shows_earlier, with_seen}

module _ (nodes : List Node) where
  mutual
    -- node i, which is inside `round` others and sees the labelled parts `seen`, is well formed with all inside
    -- it, which are the nodes up to `end`
    pub data Laid : List ℕ → ℕ → ℕ → ℕ → Type 0 where
      laid :
          {seen : List ℕ} {round i end : ℕ}
          (n : Node) → slice_get nodes i ≡ Some n → round < 64 → IsHead nodes seen (head_of n)
          → HasParts (head_of n) (length (parts_of n))
          → PartsLaid (shows_earlier n) seen (suc round) (parts_of n) (suc i) end
          → Laid seen round i end

    pub data PartsLaid : Bool → List ℕ → ℕ → List ℕ → ℕ → ℕ → Type 0 where
      laid_end :
          {shows : Bool} {seen : List ℕ} {round at end : ℕ}
          → end ≡ at → PartsLaid shows seen round [] at end
      laid_next :
          {shows : Bool} {seen : List ℕ} {round i at end : ℕ} {parts : List ℕ}
          (middle : ℕ) → i ≡ at → Laid seen round i middle
          → PartsLaid shows (with_seen nodes shows i seen) round parts middle end
          → PartsLaid shows seen round (i ∷ parts) at end

  -- what stands behind these parts sees
  abbrev pub seen_behind : Bool → List ℕ → List ℕ → List ℕ
  seen_behind shows [] seen = seen
  seen_behind shows (i ∷ parts) seen = seen_behind shows parts (with_seen nodes shows i seen)
