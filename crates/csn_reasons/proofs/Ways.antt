-- The nodes above a node, and the path that they give.
use Rattle.std.proofs.Common.{◌≡◌, ℕ, zero, suc, ◌<◌, ◌≤◌, ◌⊎◌, List, [], ◌∷◌, ◌++◌, ◌+◌, length, append_assoc, refl, sym, ◌∙◌, subst, arith, inl}
use Rattle.std.proofs.Common.{inr, Some, Option, get_or, drop}
use Rattle.std.specs.Prelude.{slice_get}
use Rattle.std.proofs.lemmas.Bool.{cases_order}
use Rattle.std.proofs.lemmas.Option.{slice_get_within}
use Rattle.csn_desc.specs.declared.node.Node.{Node}
use Rattle.csn_desc.specs.Nodes.{DescV, parts_of}
use Rattle.csn_desc.specs.Formed.{IsDescription}
use Rattle.csn_desc.proofs.Numbering.{span_inside, span_parts, part_from, part_before}
use Rattle.csn_desc.proofs.Parents.{HasParent, parent_of}
use Rattle.csn_reasons.specs.Paths.{IsPart, AreParents, LeadsUp, at_root, one_up, below_at, path_of, step_at}

-- a part of a node has a higher number, and is there
pub part_behind : (d : DescV) (k j i : ℕ) (n : Node) → IsDescription d → slice_get d.nodes k ≡ Some n
    → slice_get (parts_of n) j ≡ Some i → (k < i) × (i < length d.nodes)
part_behind d k j i n is at get =
    let there = slice_get_within d.nodes k n at in
    let inside = span_inside d.nodes k is.numbered (omega arith) there in
    let parts = span_parts d.nodes at inside.span in
    let low = part_from d.nodes j i parts get in
    let high = part_before d.nodes j i parts get in
    let within = inside.within in
    (omega (arith, low), omega (arith, high, within))

-- the nodes that are parts of the first nodes have these noted
pub record AreNoted (nodes : List Node) (number : ℕ) (parents : List ℕ) : Type 0 where
  pub all : length parents ≡ length nodes
  pub noted : (k j i : ℕ) (n : Node) → k < number → slice_get nodes k ≡ Some n → slice_get (parts_of n) j ≡ Some i
      → IsPart nodes i (get_or parents i 0)

-- the parts of one more node are noted
pub more_noted : (d : DescV) (number : ℕ) (node : Node) (old new : List ℕ) → IsDescription d → slice_get d.nodes number ≡ Some node
    → AreNoted d.nodes number old → length new ≡ length old
    → ((j i : ℕ) → slice_get (parts_of node) j ≡ Some i → i < length old → get_or new i 0 ≡ number)
    → ((i : ℕ) → (get_or new i 0 ≡ get_or old i 0) ⊎ ((get_or new i 0 ≡ number) × (j : ℕ) × (slice_get (parts_of node) j ≡ Some i)))
    → AreNoted d.nodes (number + 1) new
more_noted d number node old new is at before same noted others = record {
  all = same ∙ before.all;
  noted = λ k j i n low there part. elim (cases_order k number) [
    | inl e ↦
        let one : n ≡ node = cc (there, at, e) in
        let mine : slice_get (parts_of node) j ≡ Some i = subst (λ m. slice_get (parts_of m) j ≡ Some i) one part in
        let inside = part_behind d number j i node is at mine in
        here j i mine (noted j i mine (omega (arith, inside.1, before.all)))
    | inr order ↦ elim order [
      | inl less ↦ elim (others i) [
        | inl kept ↦ subst (λ p. IsPart d.nodes i p) (sym kept) (before.noted k j i n less there part)
        | inr changed ↦ here changed.1 i changed.2 changed.0
      ]
      | inr more ↦ absurd (omega (arith, low, more))
    ]
  ];
}
  where
    here : (j i : ℕ) → slice_get (parts_of node) j ≡ Some i → get_or new i 0 ≡ number → IsPart d.nodes i (get_or new i 0)
    here j i mine e =
        let inside = part_behind d number j i node is at mine in
        subst (λ p. IsPart d.nodes i p) (sym e) (record { node = node; here = at; place = j; part = mine; before = inside.0 })

-- where the parts of all nodes are noted, the parents are
pub all_noted : (d : DescV) (number : ℕ) (parents : List ℕ) → IsDescription d → length d.nodes ≤ number → AreNoted d.nodes number parents
    → AreParents d.nodes parents
all_noted d number parents is whole are = (
  are.all,
  λ i low there.
      let h : HasParent d.nodes i 0 = parent_of d.nodes i is.numbered low there in
      let inside = slice_get_within d.nodes h.parent h.node h.at in
      are.noted h.parent h.place i h.node (omega (arith, inside, whole)) h.at h.part,
)

-- one step up
pub more_up : (nodes : List Node) (parents : List ℕ) (node here : ℕ) (up : List ℕ) → IsPart nodes here (get_or parents here 0)
    → ((rest : List ℕ) → LeadsUp nodes here rest → LeadsUp nodes node (up ++ rest))
    → (rest : List ℕ) → LeadsUp nodes (get_or parents here 0) rest → LeadsUp nodes node ((up ++ here ∷ []) ++ rest)
more_up nodes parents node here up part so_far rest leads =
    subst (λ l. LeadsUp nodes node l) (sym (append_assoc up (here ∷ []) rest)) (so_far (here ∷ rest) (one_up part leads))

-- the way from the root
pub from_root : (nodes : List Node) (here : ℕ) → here ≡ 0 → LeadsUp nodes here (here ∷ [])
from_root nodes here e = subst (λ h. LeadsUp nodes h (h ∷ [])) (sym e) at_root

-- ---- paths

-- the path behind one more of the nodes from the root down
pub path_back : (nodes : List Node) (up : List ℕ) (k : ℕ) (below : Option ℕ) → k < length up
    → path_of nodes below (drop k up)
    ≡ step_at (path_of nodes (slice_get up k) (drop (suc k) up)) (slice_get nodes (get_or up k 0)) below
path_back nodes [] k below inside = absurd (omega (arith, inside))
path_back nodes (i ∷ up) zero below inside = refl
path_back nodes (i ∷ up) (suc k) below inside = path_back nodes up k below (omega (arith, inside))

pub path_behind : (nodes : List Node) (up : List ℕ) (k at at' : ℕ) → k ≡ suc at → at' ≡ at → at < length up
    → step_at (path_of nodes (below_at up k) (drop k up)) (slice_get nodes (get_or up at 0)) (below_at up at)
    ≡ path_of nodes (below_at up at') (drop at' up)
path_behind nodes up k at at' e f inside =
    subst (λ n. step_at (path_of nodes (below_at up n) (drop n up)) (slice_get nodes (get_or up at 0)) (below_at up at)
    ≡ path_of nodes (below_at up at') (drop at' up)) (sym e)
    (subst (λ m. step_at (path_of nodes (below_at up (suc at)) (drop (suc at) up)) (slice_get nodes (get_or up at 0)) (below_at up at)
    ≡ path_of nodes (below_at up m) (drop m up)) (sym f) (sym (path_back nodes up at (below_at up at) inside)))
