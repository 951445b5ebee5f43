-- Nodes that were all left are a description, where no counted field sees 64 others.
use Rattle.std.proofs.Common.{ℕ, ◌≤◌, Bool, List, [], length, refl, lt_of_not-le}
use Rattle.csn_desc.specs.declared.reading.Reading.{Reading}
use Rattle.csn_desc.specs.declared.node.Node.{Node}
use Rattle.csn_desc.specs.Formed.{Formed, PartsFormed, formed, formed_end, formed_next, IsDescription}
use Rattle.csn_desc.specs.Overfull.{part_here, Sees, sees_none, sees_parts, IsOverfull, IsFirstOverfull}
use Rattle.csn_desc.specs.Laid.{Laid, PartsLaid, laid, laid_end, laid_next}
use Rattle.csn_desc.specs.Crowds.{Below, below_here, below_part, Crowded, Counting, NoneCrowded, FirstCrowded, BelowPart}
use Rattle.csn_desc.proofs.WellFormed.{laid_spans}
use Rattle.csn_desc.proofs.CrowdFacts.{below_join, later_sees}

module _ (nodes : List Node) where
  mutual
    pub laid_formed :
        {seen : List ℕ} {round i end : ℕ} → Laid nodes seen round i end
        → ((k : ℕ) (shown : List ℕ) → Below nodes i seen k shown → Crowded nodes k shown → ⊥) → Formed nodes seen round i
    laid_formed {seen} {round} {i} (laid n at deep head has parts) none =
        formed n at deep head has
        (λ counted. lt_of_not-le (λ full. none i seen (below_here refl refl) (record { counted = counted; full = full })))
        (parts_formed parts (λ k shown b crowded. none k shown (below_join nodes n b.part b.round at b.sees b.below) crowded))

    parts_formed :
        {shows : Bool} {seen : List ℕ} {round at end : ℕ} {parts : List ℕ} → PartsLaid nodes shows seen round parts at end
        → ((k : ℕ) (shown : List ℕ) → BelowPart nodes parts shows seen k shown → Crowded nodes k shown → ⊥) → PartsFormed nodes shows seen round parts
    parts_formed (laid_end e) none = formed_end
    parts_formed {seen = seen} (laid_next {i = i} middle e h rest) none =
        formed_next
        (laid_formed h (λ k shown b crowded. none k shown (record { part = i; round = seen; sees = part_here refl refl; below = b }) crowded))
        (parts_formed rest (λ k shown b crowded. none k shown (later_sees nodes b) crowded))

  pub sees_below : {k : ℕ} {shown : List ℕ} → Sees nodes k shown → Below nodes 0 [] k shown
  sees_below (sees_none e f) = below_here e f
  sees_below (sees_parts n at s p) = below_part n at (sees_below s) p

  pub below_sees : {k : ℕ} {shown : List ℕ} → Below nodes 0 [] k shown → Sees nodes k shown
  below_sees (below_here e f) = sees_none e f
  below_sees (below_part n at s p) = sees_parts n at (below_sees s) p

  pub root_counting : Laid nodes [] 0 0 (length nodes) → Counting nodes 0 0 0 []
  root_counting h = record { end = length nodes; laid = h; amount = refl }

  pub none_overfull : Laid nodes [] 0 0 (length nodes) → NoneCrowded nodes 0 0 0 → (i : ℕ) → IsOverfull nodes i → ⊥
  none_overfull h none i o = none [] (root_counting h) i o.seen (sees_below o.sees) (record { counted = o.counted; full = o.full })

  pub first_of_nodes : Laid nodes [] 0 0 (length nodes) → (j : ℕ) → FirstCrowded nodes 0 0 0 j → IsFirstOverfull nodes j
  first_of_nodes h j first =
      let f = first [] (root_counting h) in
      record {
        overfull = record { counted = f.crowded.counted; seen = f.shown; sees = below_sees f.below; full = f.crowded.full };
        first = λ k o. f.first k o.seen (sees_below o.sees) (record { counted = o.counted; full = o.full });
      }

  pub is_description : (r : Reading) → length nodes ≤ 16384 → Laid nodes [] 0 0 (length nodes)
      → NoneCrowded nodes 0 0 0 → IsDescription (record { reading = r; nodes = nodes })
  is_description r few h none =
      record { few = few; numbered = laid_spans nodes h; well_formed = laid_formed h (λ k shown b crowded. none [] (root_counting h) k shown b crowded) }
