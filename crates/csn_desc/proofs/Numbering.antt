-- What the numbering of a description says of the parts of one node. Other crates cite this.
use Rattle.std.proofs.Common.{◌≡◌, ℕ, zero, suc, ◌<◌, ◌≤◌, List, length, refl, ap, subst, arith, inl, inr, Some}
use Rattle.std.specs.Prelude.{slice_get}
use Rattle.std.proofs.lemmas.Bool.{cases_order}
use Rattle.std.proofs.lemmas.Option.{slice_get_within}
use Rattle.csn_desc.specs.declared.node.Node.{Node}
use Rattle.csn_desc.specs.Nodes.{DescV, parts_of}
use Rattle.csn_desc.specs.Formed.{IsDescription, Spans, PartsSpan, spans, span_end, span_next}

module _ (nodes : List Node) where
  mutual
    -- a node ends behind itself
    pub span_grows : {i end : ℕ} → Spans nodes i end → i < end
    span_grows (spans n at h) = omega (arith, parts_span_grow h)

    pub parts_span_grow : {parts : List ℕ} {at end : ℕ} → PartsSpan nodes parts at end → at ≤ end
    parts_span_grow (span_end e) = omega arith
    parts_span_grow (span_next middle e h others) = omega (arith, span_grows h, parts_span_grow others)

  -- each part begins where the first one does, or behind it
  pub part_from : {parts : List ℕ} {at end : ℕ} (j i : ℕ) → PartsSpan nodes parts at end → slice_get parts j ≡ Some i → at ≤ i
  part_from j i (span_end e) at = cc
  part_from zero i (span_next {i = first} middle e h others) at = let same : first ≡ i = cc in omega arith
  part_from (suc j) i (span_next middle e h others) at = omega (arith, span_grows h, part_from j i others at)

  -- no two parts are one node
  pub parts_distinct : {parts : List ℕ} {at end : ℕ} (j k i : ℕ) → PartsSpan nodes parts at end
      → slice_get parts j ≡ Some i → slice_get parts k ≡ Some i → j ≡ k
  parts_distinct j k i (span_end e) left right = cc
  parts_distinct zero zero i (span_next middle e h others) left right = refl
  parts_distinct zero (suc k) i (span_next {i = first} middle e h others) left right =
      let same : first ≡ i = cc in absurd (omega (arith, span_grows h, part_from k i others right))
  parts_distinct (suc j) zero i (span_next {i = first} middle e h others) left right =
      let same : first ≡ i = cc in absurd (omega (arith, span_grows h, part_from j i others left))
  parts_distinct (suc j) (suc k) i (span_next middle e h others) left right = ap suc (parts_distinct j k i others left right)

  pub part_spans : {parts : List ℕ} {at end : ℕ} (j i : ℕ) → PartsSpan nodes parts at end → slice_get parts j ≡ Some i → (middle : ℕ) × Spans nodes i middle
  part_spans j i (span_end e) at = cc
  part_spans zero i (span_next {i = first} middle e h others) at =
      let same : first ≡ i = cc in
      let P : ℕ → Type 0 = λ k. (m : ℕ) × Spans nodes k m in
      subst P same (middle, h)
  part_spans (suc j) i (span_next middle e h others) at = part_spans j i others at

  -- ---- inside a span

  pub record Inside (k end : ℕ) : Type 0 where
    pub stop : ℕ
    pub span : Spans nodes k stop
    pub within : stop ≤ end

  mutual
    -- each node between where a span begins and ends has a span in it
    pub span_inside : {i end : ℕ} (k : ℕ) → Spans nodes i end → i ≤ k → k < end → Inside k end
    span_inside {i} {end} k (spans n at h) low high =
        elim (cases_order i k) [
          | inl same ↦ subst (λ j. Inside j end) same (record { stop = end; span = spans n at h; within = omega arith })
          | inr apart ↦ elim apart [
            | inl later ↦ parts_inside k h (omega (arith, later)) high
            | inr earlier ↦ absurd (omega (arith, low, earlier))
          ]
        ]

    parts_inside : {parts : List ℕ} {at end : ℕ} (k : ℕ) → PartsSpan nodes parts at end → at ≤ k → k < end → Inside k end
    parts_inside k (span_end e) low high = absurd (omega arith)
    parts_inside {at = at} {end = end} k (span_next {i = i} middle e h others) low high =
        let grows = parts_span_grow others in
        let behind : middle ≤ k → Inside k end = λ there. parts_inside k others there high in
        elim (cases_order k middle) [
          | inl same ↦ behind (omega (arith, same))
          | inr apart ↦ elim apart [
            | inl before ↦
                let inner = span_inside k h (omega arith) before in
                let within = inner.within in
                record { stop = inner.stop; span = inner.span; within = omega arith }
            | inr after ↦ behind (omega (arith, after))
          ]
        ]

  pub part_before : {parts : List ℕ} {at end : ℕ} (j p : ℕ) → PartsSpan nodes parts at end → slice_get parts j ≡ Some p → p < end
  part_before j p (span_end e) at = cc
  part_before zero p (span_next {i = first} middle e h others) at =
      let same : first ≡ p = cc in
      let grows = span_grows h in
      let more = parts_span_grow others in
      omega arith
  part_before (suc j) p (span_next middle e h others) at = part_before j p others at

  pub span_parts : {i end : ℕ} {n : Node} → slice_get nodes i ≡ Some n → Spans nodes i end → PartsSpan nodes (parts_of n) (suc i) end
  span_parts {i} {end} {n} at (spans m is h) = let same : m ≡ n = cc in subst (λ k. PartsSpan nodes (parts_of k) (suc i) end) same h

-- what holds of all later nodes holds of its parts
pub parts_later : (d : DescV) (i : ℕ) (n : Node) (P : ℕ → Type 0) → IsDescription d → slice_get d.nodes i ≡ Some n
    → ((j : ℕ) → i < j → j < length d.nodes → P j) → (j p : ℕ) → slice_get (parts_of n) j ≡ Some p → P p
parts_later d i n P is at later j p there =
    let inside = slice_get_within d.nodes i n at in
    let s = span_inside d.nodes i is.numbered (omega arith) inside in
    let parts = span_parts d.nodes at s.span in
    let low = part_from d.nodes j p parts there in
    let high = part_before d.nodes j p parts there in
    let end = s.within in
    later p (omega arith) (omega arith)
