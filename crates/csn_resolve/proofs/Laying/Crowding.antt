-- Whether some field that is counted on sees 64 such fields is decided, and the first one that does is known.
use Rattle.std.proofs.Common.{◌≡◌, ℕ, ◌≤◌, ◌<◌, Bool, true, false, List, [], ◌∷◌, length, count_by, ◌⊎◌, inl, inr, refl, sym, subst, arith, Some}
use Rattle.std.specs.Prelude.{slice_get}
use Rattle.std.proofs.lemmas.Bool.{cases_lt}
use Rattle.csn_desc.specs.declared.node.Node.{Node}
use Rattle.csn_desc.specs.Nodes.{parts_of}
use Rattle.csn_desc.specs.Formed.{is_counted, shows_earlier, with_seen}
use Rattle.csn_desc.specs.Overfull.{part_here, IsOverfull, IsFirstOverfull}
use Rattle.csn_desc.specs.Laid.{Laid, PartsLaid, laid, laid_end, laid_next}
use Rattle.csn_desc.specs.Crowds.{Below, below_here, Crowded, BelowPart}
use Rattle.csn_desc.proofs.CrowdFacts.{First, first_here, first_part, below_step, below_join, FirstPart, in_first, in_rest, sees_step, none_sees, later_sees}
use Rattle.csn_desc.proofs.Finishing.{sees_below, below_sees}
use Rattle.csn_resolve.proofs.Basics.Bools.{no_both}

-- ---- numbers of which a fact holds: none, or a first one

abbrev pub Least : (ℕ → Type 0) → Type 0
Least P = ((k : ℕ) → ¬ P k) ⊎ ((j : ℕ) × P j × ((k : ℕ) → P k → j ≤ k))

least_as : {P Q : ℕ → Type 0} → ((k : ℕ) → P k → Q k) → ((k : ℕ) → Q k → P k) → Least P → Least Q
least_as to from (inl none) = inl (λ k q. none k (from k q))
least_as to from (inr h) = inr (h.0, to h.0 h.1, λ k q. h.2 k (from k q))

least_either : {P Q : ℕ → Type 0} → Least P → Least Q → Least (λ k. P k ⊎ Q k)
least_either (inl none) (inl other) = inl (λ k e. elim e [ inl p ↦ none k p | inr q ↦ other k q ])
least_either (inl none) (inr h) = inr (h.0, inr h.1, λ k e. elim e [ inl p ↦ absurd (none k p) | inr q ↦ h.2 k q ])
least_either (inr h) (inl other) = inr (h.0, inl h.1, λ k e. elim e [ inl p ↦ h.2 k p | inr q ↦ absurd (other k q) ])
least_either (inr h) (inr g) =
    elim (cases_lt h.0 g.0) [
      | inl less ↦ inr (h.0, inl h.1, λ k e. elim e [ inl p ↦ h.2 k p | inr q ↦ omega (arith, g.2 k q, less) ])
      | inr less ↦ inr (g.0, inr g.1, λ k e. elim e [ inl p ↦ omega (arith, h.2 k p, less) | inr q ↦ g.2 k q ])
    ]

module _ (nodes : List Node) where
  -- field k, which is node i or inside it, sees 64 others that are counted on, where node i sees `seen`
  record CrowdedIn (i : ℕ) (seen : List ℕ) (k : ℕ) : Type 0 where
    shown : List ℕ
    below : Below nodes i seen k shown
    crowded : Crowded nodes k shown

  record CrowdedAmong (parts : List ℕ) (shows : Bool) (seen : List ℕ) (k : ℕ) : Type 0 where
    shown : List ℕ
    below : BelowPart nodes parts shows seen k shown
    crowded : Crowded nodes k shown

  -- the node itself
  abbrev Itself : ℕ → List ℕ → ℕ → Type 0
  Itself i seen k = (k ≡ i) × Crowded nodes i seen

  least_itself : (i : ℕ) (seen : List ℕ) → Least (Itself i seen)
  least_itself i seen = by (is_counted nodes i) refl (cases_lt (count_by (is_counted nodes) seen) 64)
    where
      by :
          (b : Bool) → is_counted nodes i ≡ b
          → (count_by (is_counted nodes) seen < 64) ⊎ (64 ≤ count_by (is_counted nodes) seen) → Least (Itself i seen)
      by true is (inl few) = inl (λ k h. let full = h.1.full in omega (arith, few, full))
      by true is (inr full) = inr (i, (refl, record { counted = is; full = full }), λ k h. omega (arith, h.0))
      by false is size = inl (λ k h. no_both h.1.counted is)

  here_crowded : {i k : ℕ} {seen shown : List ℕ} → k ≡ i → shown ≡ seen → Crowded nodes k shown → Crowded nodes i seen
  here_crowded {i} {k} {seen} {shown} e f c =
      let P : ℕ → Type 0 = λ j. Crowded nodes j shown in
      let Q : List ℕ → Type 0 = λ l. Crowded nodes i l in subst Q f (subst P e c)

  -- a node by itself and its parts
  from_node :
      {i k : ℕ} {seen shown : List ℕ} (n : Node) → slice_get nodes i ≡ Some n → Crowded nodes k shown
      → First nodes i seen k shown → Itself i seen k ⊎ CrowdedAmong (parts_of n) (shows_earlier n) seen k
  from_node n at crowded (first_here e f) = inl (e, here_crowded e f crowded)
  from_node {k = k} {seen = seen} {shown = shown} n at crowded (first_part m is b) =
      let same : m ≡ n = cc (at, is) in
      let P : Node → Type 0 = λ z. BelowPart nodes (parts_of z) (shows_earlier z) seen k shown in
      inr (record { shown = shown; below = subst P same b; crowded = crowded })

  to_node :
      {i k : ℕ} {seen : List ℕ} (n : Node) → slice_get nodes i ≡ Some n
      → Itself i seen k ⊎ CrowdedAmong (parts_of n) (shows_earlier n) seen k → CrowdedIn i seen k
  to_node {i} {k} {seen} n at (inl h) =
      record { shown = seen; below = below_here h.0 refl; crowded = here_crowded (sym h.0) refl h.1 }
  to_node n at (inr h) =
      let b = h.below in
      record { shown = h.shown; below = below_join nodes n b.part b.round at b.sees b.below; crowded = h.crowded }

  -- the first of some parts and the others
  from_parts :
      {i k : ℕ} {parts seen shown : List ℕ} {shows : Bool} → Crowded nodes k shown
      → FirstPart nodes i parts shows seen k shown
      → CrowdedIn i seen k ⊎ CrowdedAmong parts shows (with_seen nodes shows i seen) k
  from_parts {shown = shown} crowded (in_first b) = inl (record { shown = shown; below = b; crowded = crowded })
  from_parts {shown = shown} crowded (in_rest b) = inr (record { shown = shown; below = b; crowded = crowded })

  to_parts :
      {i k : ℕ} {parts seen : List ℕ} {shows : Bool}
      → CrowdedIn i seen k ⊎ CrowdedAmong parts shows (with_seen nodes shows i seen) k
      → CrowdedAmong (i ∷ parts) shows seen k
  to_parts {i = i} {seen = seen} (inl h) =
      record {
        shown = h.shown;
        below = record { part = i; round = seen; sees = part_here refl refl; below = h.below };
        crowded = h.crowded;
      }
  to_parts (inr h) = record { shown = h.shown; below = later_sees nodes h.below; crowded = h.crowded }

  mutual
    least_in : {seen : List ℕ} {round i end : ℕ} → Laid nodes seen round i end → Least (CrowdedIn i seen)
    least_in {seen} {round} {i} (laid n at deep head has parts) =
        least_as (λ k h. to_node n at h) (λ k h. from_node n at h.crowded (below_step nodes h.below))
        (least_either (least_itself i seen) (least_among parts))

    least_among :
        {shows : Bool} {seen parts : List ℕ} {round at end : ℕ}
        → PartsLaid nodes shows seen round parts at end → Least (CrowdedAmong parts shows seen)
    least_among (laid_end e) = inl (λ k h. none_sees nodes h.below)
    least_among (laid_next middle e h rest) =
        least_as (λ k p. to_parts p) (λ k p. from_parts p.crowded (sees_step nodes p.below.sees p.below.below))
        (least_either (least_in h) (least_among rest))

  -- no field is refused last, or a first one is
  pub first_overfull :
      Laid nodes [] 0 0 (length nodes) → ((i : ℕ) → ¬ IsOverfull nodes i) ⊎ ((j : ℕ) × IsFirstOverfull nodes j)
  first_overfull h = by (least_in h)
    where
      crowded_of : (i : ℕ) → IsOverfull nodes i → CrowdedIn 0 [] i
      crowded_of i o =
          record { shown = o.seen; below = sees_below nodes o.sees; crowded = record { counted = o.counted; full = o.full } }

      by : Least (CrowdedIn 0 []) → ((i : ℕ) → ¬ IsOverfull nodes i) ⊎ ((j : ℕ) × IsFirstOverfull nodes j)
      by (inl none) = inl (λ i o. none i (crowded_of i o))
      by (inr h) =
          let c = h.1 in
          inr (
            h.0,
            record {
              overfull = record { counted = c.crowded.counted; seen = c.shown; sees = below_sees nodes c.below; full = c.crowded.full };
              first = λ j o. h.2 j (crowded_of j o);
            },
          )
