-- Each node inside a well-formed one is well formed.
use Rattle.std.proofs.Common.{◌≡◌, ℕ, ◌<◌, ◌≤◌, Bool, List, subst, arith, inl, inr, Some, slice_get}
use Rattle.std.proofs.lemmas.Bool.Decides.{leb_tells}
use Rattle.std.proofs.lemmas.Option.{slice_get_within}
use Rattle.csn_desc.specs.declared.node.Node.{Node}
use Rattle.csn_desc.specs.Nodes.{DescV, parts_of}
use Rattle.csn_desc.specs.Formed.{Spans, PartsSpan, spans, span_end, span_next, Formed, PartsFormed, formed, formed_end, formed_next, IsDescription}

module _ (nodes : List Node) where
  -- node k is well formed, wherever it stands
  pub record Placed (k : ℕ) : Type 0 where
    pub seen : List ℕ
    pub round : ℕ
    pub is : Formed nodes seen round k

  placed_here : {i k : ℕ} {seen : List ℕ} {round : ℕ} → i ≡ k → Formed nodes seen round i → Placed k
  placed_here {seen = seen} {round = round} same h =
      let P : ℕ → Type 0 = λ k. Formed nodes seen round k in record { seen = seen; round = round; is = subst P same h }

  parts_along : {n m : Node} {at end : ℕ} → n ≡ m → PartsSpan nodes (parts_of n) at end → PartsSpan nodes (parts_of m) at end
  parts_along {at = at} {end = end} same h = let P : Node → Type 0 = λ n. PartsSpan nodes (parts_of n) at end in subst P same h

  mutual
    -- each node inside a well-formed one is well formed
    pub placed : {i end : ℕ} {seen : List ℕ} {round : ℕ} (k : ℕ) → Spans nodes i end → Formed nodes seen round i → i ≤ k → k < end → Placed k
    placed {i = i} k (spans n at parts) (formed m is few head have room others) from within =
        let same : n ≡ m = cc in
        elim (leb_tells k i) [
          | inl low ↦ placed_here (omega (arith, low.1)) (formed m is few head have room others)
          | inr high ↦ parts_placed k (parts_along same parts) others (omega (arith, high.1)) within
        ]

    parts_placed : {shows : Bool} {seen : List ℕ} {round : ℕ} {parts : List ℕ} {at end : ℕ} (k : ℕ)
        → PartsSpan nodes parts at end → PartsFormed nodes shows seen round parts → at ≤ k → k < end → Placed k
    parts_placed k (span_end e) formed_end from within = absurd (omega arith)
    parts_placed k (span_next middle e h others) (formed_next first rest) from within =
        elim (leb_tells middle k) [
          | inl behind ↦ parts_placed k others rest behind.1 within
          | inr inside ↦ placed k h first (omega arith) inside.1
        ]

-- each node of a description is well formed
pub node_placed : (d : DescV) → IsDescription d → (i : ℕ) (n : Node) → slice_get d.nodes i ≡ Some n → Placed d.nodes i
node_placed d is i n at = placed d.nodes i is.numbered is.well_formed (omega arith) (slice_get_within d.nodes i n at)
