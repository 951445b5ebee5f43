-- Where the sets of all later nodes are known, those of the parts are.
use Rattle.std.proofs.Common.{◌≡◌, ◌≢◌, ℕ, ◌<◌, ◌≤◌, List, length, sym, ap, ◌∙◌, subst, arith, inl, inr, Some, get_or-set_same, get_or-set_other}
use Rattle.std.specs.Prelude.{slice_get}
use Rattle.std.proofs.Math.ListN.{set, length-set}
use Rattle.std.proofs.lemmas.Bool.{cases_order}
use Rattle.std.proofs.lemmas.Option.{slice_get-get_or, get_or_from_slice_get}
use Rattle.csn_desc.specs.declared.node.Node.{Node}
use Rattle.csn_desc.specs.Nodes.{DescV, parts_of}
use Rattle.csn_desc.specs.Formed.{IsDescription}
use Rattle.csn_desc.proofs.Numbering.{parts_later}
use Rattle.csn_look.specs.declared.node_sets.NodeSets.{NodeSets}
use Rattle.csn_look.specs.NodeSets.{SetsAre, IsKnown, AreKnown}

-- where the sets of all later nodes are known, those of its parts are
pub parts_known : (d : DescV) (i : ℕ) (n : Node) (known : List NodeSets)
    → IsDescription d → slice_get d.nodes i ≡ Some n → ((j : ℕ) → i < j → j < length d.nodes → IsKnown d known j)
    → AreKnown d known (parts_of n)
parts_known d i n known is at later = parts_later d i n (IsKnown d known) is at later

-- the sets of one node more
pub known_more : (d : DescV) (i : ℕ) (known : List NodeSets) (sets : NodeSets) → length known ≡ length d.nodes
    → SetsAre d i sets → ((j : ℕ) → i < j → j < length d.nodes → IsKnown d known j) → (j : ℕ)
    → i ≤ j → j < length d.nodes → IsKnown d (set known i sets) j
known_more d i known sets same are later j low high =
    elim (cases_order i j) [
      | inl here ↦
          let inside : j < length known = omega arith in
          subst (λ k. IsKnown d (set known k sets) j) (sym here) (
            sets,
            slice_get-get_or (set known j sets) j sets (omega (arith, length-set {A = NodeSets}))
                ∙ ap (λ s. Some s) (get_or-set_same known j sets sets inside),
            subst (λ k. SetsAre d k sets) here are,
          )
      | inr apart ↦ elim apart [
        | inl after ↦
            let k = later j after high in
            let differ : j ≢ i = omega (arith, after) in (
              k.0,
              slice_get-get_or (set known i sets) j k.0 (omega (arith, length-set {A = NodeSets}))
                  ∙ ap (λ s. Some s) (get_or-set_other known i j sets k.0 differ ∙ get_or_from_slice_get known j k.0 k.0
                  k.1),
              k.2,
            )
        | inr before ↦ absurd (omega (arith, low, before))
      ]
    ]
