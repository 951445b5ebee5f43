-- A node is a part of one node at most, and each node but the root is one of a node before it. Other crates
-- cite this.
use Rattle.std.proofs.Common.{◌≡◌, ℕ, zero, suc, ◌<◌, ◌≤◌, ◌⊎◌, List, ◌∷◌, length, sym, ap, subst, arith, inl, inr, Some}
use Rattle.std.specs.Prelude.{slice_get}
use Rattle.std.proofs.lemmas.Bool.{cases_order}
use Rattle.std.proofs.lemmas.Option.{slice_get_within}
use Rattle.csn_desc.specs.declared.node.Node.{Node}
use Rattle.csn_desc.specs.Nodes.{DescV, parts_of}
use Rattle.csn_desc.specs.Formed.{IsDescription, Spans, PartsSpan, spans, span_end, span_next}
use Rattle.csn_desc.proofs.Numbering.{span_grows, parts_span_grow, part_from, parts_distinct, span_inside, span_parts, part_before}

module _ (nodes : List Node) where
  -- a span that begins among those of some parts, and lies apart from where each of these begins
  pub record Apart (parts : List ℕ) (k end : ℕ) : Type 0 where
    pub stop : ℕ
    pub span : Spans nodes k stop
    pub within : stop ≤ end
    pub apart : (j p : ℕ) → slice_get parts j ≡ Some p → (p ≤ k) ⊎ (stop ≤ p)

  pub parts_apart : {parts : List ℕ} {at end : ℕ} (k : ℕ) → PartsSpan nodes parts at end → at ≤ k → k < end → Apart parts k end
  parts_apart k (span_end e) low high = absurd (omega arith)
  parts_apart {parts = i ∷ parts} {at = at} {end = end} k (span_next middle e h others) low high =
      let grows = parts_span_grow nodes others in
      let behind : middle ≤ k → Apart (i ∷ parts) k end =
      λ there.
      let inner = parts_apart k others there high in
      let first = span_grows nodes h in
      record {
        stop = inner.stop;
        span = inner.span;
        within = inner.within;
        apart = λ j p get. before_or k inner.stop i at p j parts (omega (arith, there, first)) e get (λ m there. inner.apart m p there);
      } in
      elim (cases_order k middle) [
        | inl same ↦ behind (omega (arith, same))
        | inr order ↦ elim order [
          | inl before ↦
              let inner = span_inside nodes k h (omega arith) before in
              let within = inner.within in
              record {
                stop = inner.stop;
                span = inner.span;
                within = omega arith;
                apart = λ j p get. before_or k inner.stop i at p j parts (omega arith) e get
                    (λ m there. inr (let from = part_from nodes m p others there in omega (arith, from, within)));
              }
          | inr after ↦ behind (omega (arith, after))
        ]
      ]
    where
      before_or : (k stop i at p j : ℕ) (parts : List ℕ) → at ≤ k → i ≡ at → slice_get (i ∷ parts) j ≡ Some p
          → ((m : ℕ) → slice_get parts m ≡ Some p → (p ≤ k) ⊎ (stop ≤ p)) → (p ≤ k) ⊎ (stop ≤ p)
      before_or k stop i at p zero parts low e get later = let same : i ≡ p = cc in inl (omega arith)
      before_or k stop i at p (suc j) parts low e get later = later j get

  -- a part of a node is no part of a later one
  later_parent : (k m j h p end : ℕ) (n o : Node) → Spans nodes 0 end → k < m → m < end → slice_get nodes k ≡ Some n
      → slice_get nodes m ≡ Some o → slice_get (parts_of n) j ≡ Some p → slice_get (parts_of o) h ≡ Some p → ⊥
  later_parent k m j h p end n o all order inside at_k at_m get_k get_m =
      let s = span_inside nodes k all (omega arith) (omega arith) in
      let parts = span_parts nodes at_k s.span in
      let high = part_before nodes j p parts get_k in
      let own = span_inside nodes m all (omega arith) inside in
      let own_parts = span_parts nodes at_m own.span in
      let low = part_from nodes h p own_parts get_m in
      let a = parts_apart m parts (omega arith) (omega (arith, high, low)) in
      let a_parts = span_parts nodes at_m a.span in
      let below = part_before nodes h p a_parts get_m in
      elim (a.apart j p get_k) [
        | inl before ↦ absurd (omega (arith, before, low))
        | inr behind ↦ absurd (omega (arith, behind, below))
      ]

-- two nodes that have one part are one, and have it at one place
pub one_parent : (d : DescV) (k m j h p : ℕ) (n o : Node) → IsDescription d → slice_get d.nodes k ≡ Some n
    → slice_get d.nodes m ≡ Some o → slice_get (parts_of n) j ≡ Some p → slice_get (parts_of o) h ≡ Some p → (k ≡ m)
    × (j ≡ h)
one_parent d k m j h p n o is at_k at_m get_k get_m =
    let inside_k = slice_get_within d.nodes k n at_k in
    let inside_m = slice_get_within d.nodes m o at_m in
    elim (cases_order k m) [
      | inl same ↦
          let one : n ≡ o = cc (at_k, at_m, same) in
          let there : slice_get (parts_of n) h ≡ Some p = subst (λ q. slice_get (parts_of q) h ≡ Some p) (sym one) get_m in
          let s = span_inside d.nodes k is.numbered (omega arith) inside_k in
          (same, parts_distinct d.nodes j h p (span_parts d.nodes at_k s.span) get_k there)
      | inr order ↦ elim order [
        | inl before ↦ absurd (later_parent d.nodes k m j h p (length d.nodes) n o is.numbered before inside_m at_k at_m get_k get_m)
        | inr after ↦ absurd (later_parent d.nodes m k h j p (length d.nodes) o n is.numbered after inside_k at_m at_k get_m get_k)
      ]
    ]

-- ---- each node but the root is a part

module _ (nodes : List Node) where
  pub record HasParent (k low : ℕ) : Type 0 where
    pub parent : ℕ
    pub place : ℕ
    pub node : Node
    pub from : low ≤ parent
    pub before : parent < k
    pub at : slice_get nodes parent ≡ Some node
    pub part : slice_get (parts_of node) place ≡ Some k

  data IsUnder (parts : List ℕ) (k low : ℕ) : Type 0 where
    as_part : (j : ℕ) → slice_get parts j ≡ Some k → IsUnder parts k low
    deeper : HasParent k low → IsUnder parts k low

  above : (i : ℕ) (n : Node) → slice_get nodes i ≡ Some n → (k : ℕ) → i < k → IsUnder (parts_of n) k (suc i) → HasParent k i
  above i n at k low (as_part j get) = record { parent = i; place = j; node = n; from = omega arith; before = low; at = at; part = get }
  above i n at k low (deeper h) =
      let from = h.from in record { parent = h.parent; place = h.place; node = h.node; from = omega arith; before = h.before; at = h.at; part = h.part }

  lower : (i at k : ℕ) → at ≤ i → HasParent k i → HasParent k at
  lower i at k less h = let from = h.from in record {
    parent = h.parent;
    place = h.place;
    node = h.node;
    from =
        omega arith;
    before = h.before;
    at = h.at;
    part = h.part;
  }

  shift : (i at middle : ℕ) (parts : List ℕ) (k : ℕ) → at ≤ middle → IsUnder parts k middle → IsUnder (i ∷ parts) k at
  shift i at middle parts k less (as_part j get) = as_part (suc j) get
  shift i at middle parts k less (deeper h) = deeper (lower middle at k less h)

  mutual
    pub parent_of : {i end : ℕ} (k : ℕ) → Spans nodes i end → i < k → k < end → HasParent k i
    parent_of {i} k (spans n at h) low high = above i n at k low (under k h low high)

    under : {parts : List ℕ} {at end : ℕ} (k : ℕ) → PartsSpan nodes parts at end → at ≤ k → k < end → IsUnder parts k at
    under k (span_end e) low high = absurd (omega arith)
    under {parts = i ∷ parts} {at = at} {end = end} k (span_next middle e h others) low high =
        let grows = span_grows nodes h in
        elim (cases_order i k) [
          | inl same ↦ as_part 0 (ap (λ x. Some x) same)
          | inr order ↦ elim order [
            | inl later ↦ elim (cases_order k middle) [
              | inl same ↦ shift i at middle parts k (omega arith) (under k others (omega (arith, same)) high)
              | inr place ↦ elim place [
                | inl inner ↦ deeper (lower i at k (omega arith) (parent_of k h later inner))
                | inr behind ↦ shift i at middle parts k (omega (arith, e, later, behind)) (under k others (omega (arith, behind)) high)
              ]
            ]
            | inr earlier ↦ absurd (omega (arith, e, low, earlier))
          ]
        ]
