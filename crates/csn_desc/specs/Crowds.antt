-- Which counted fields see 64 counted fields, from some node on.
use Rattle.std.specs.Prelude.{◌≡◌, ℕ, ◌≤◌, Bool, IsTrue, List, slice_get, Some, count_by, min}
use Rattle.csn_desc.specs.declared.node.Node.{Node}
use Rattle.csn_desc.specs.Nodes.{parts_of}
use Rattle.csn_desc.specs.Formed.{is_counted, shows_earlier}
use Rattle.csn_desc.specs.Overfull.{PartSees}
use Rattle.csn_desc.specs.Laid.{Laid, PartsLaid}

module _ (nodes : List Node) where
  -- node k, which is node i or inside it, sees `shown` where node i sees `seen`
  pub data Below (i : ℕ) (seen : List ℕ) : ℕ → List ℕ → Type 0 where
    below_here : {k : ℕ} {shown : List ℕ} → k ≡ i → shown ≡ seen → Below i seen k shown
    below_part :
        {k above : ℕ} {shown round : List ℕ} (n : Node)
        → slice_get nodes above ≡ Some n → Below i seen above round
        → PartSees nodes (shows_earlier n) round (parts_of n) k shown → Below i seen k shown

  -- `before` is how many counted fields these are, or 64
  abbrev pub Amounts : List ℕ → ℕ → Type 0
  Amounts seen before = before ≡ min 64 (count_by (is_counted nodes) seen)

  pub record Crowded (k : ℕ) (shown : List ℕ) : Type 0 where
    pub counted : IsTrue (is_counted nodes k)
    pub full : 64 ≤ count_by (is_counted nodes) shown

  pub record Counting (i before deep : ℕ) (seen : List ℕ) : Type 0 where
    pub end : ℕ
    pub laid : Laid nodes seen deep i end
    pub amount : Amounts seen before

  abbrev pub Counts : ℕ → ℕ → ℕ → Type 0
  Counts i before deep = (seen : List ℕ) × Counting i before deep seen

  abbrev pub NoneCrowded : ℕ → ℕ → ℕ → Type 0
  NoneCrowded i before deep =
      (seen : List ℕ) → Counting i before deep seen
      → (k : ℕ) (shown : List ℕ) → Below i seen k shown → Crowded k shown → ⊥

  pub record IsFirst (i : ℕ) (seen : List ℕ) (j : ℕ) : Type 0 where
    pub shown : List ℕ
    pub below : Below i seen j shown
    pub crowded : Crowded j shown
    pub first : (k : ℕ) (others : List ℕ) → Below i seen k others → Crowded k others → j ≤ k

  abbrev pub FirstCrowded : ℕ → ℕ → ℕ → ℕ → Type 0
  FirstCrowded i before deep j = (seen : List ℕ) → Counting i before deep seen → IsFirst i seen j

  -- the same among some parts
  pub record CountingAmong (parts : List ℕ) (shows : Bool) (before deep : ℕ) (seen : List ℕ) : Type 0 where
    pub at : ℕ
    pub end : ℕ
    pub laid : PartsLaid nodes shows seen deep parts at end
    pub amount : Amounts seen before

  abbrev pub PartsCount : List ℕ → Bool → ℕ → ℕ → Type 0
  PartsCount parts shows before deep = (seen : List ℕ) × CountingAmong parts shows before deep seen

  pub record BelowPart (parts : List ℕ) (shows : Bool) (seen : List ℕ) (k : ℕ) (shown : List ℕ) : Type 0 where
    pub part : ℕ
    pub round : List ℕ
    pub sees : PartSees nodes shows seen parts part round
    pub below : Below part round k shown

  abbrev pub NoneCrowdedAmong : List ℕ → Bool → ℕ → ℕ → Type 0
  NoneCrowdedAmong parts shows before deep =
      (seen : List ℕ) → CountingAmong parts shows before deep seen
      → (k : ℕ) (shown : List ℕ) → BelowPart parts shows seen k shown → Crowded k shown → ⊥

  pub record IsFirstAmong (parts : List ℕ) (shows : Bool) (seen : List ℕ) (j : ℕ) : Type 0 where
    pub shown : List ℕ
    pub below : BelowPart parts shows seen j shown
    pub crowded : Crowded j shown
    pub first : (k : ℕ) (others : List ℕ) → BelowPart parts shows seen k others → Crowded k others → j ≤ k

  abbrev pub FirstCrowdedAmong : List ℕ → Bool → ℕ → ℕ → ℕ → Type 0
  FirstCrowdedAmong parts shows before deep j =
      (seen : List ℕ) → CountingAmong parts shows before deep seen → IsFirstAmong parts shows seen j
