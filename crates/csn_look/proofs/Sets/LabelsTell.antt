-- What the sets tell of labelled parts, and of a node whose kind is known.
use Rattle.std.proofs.Common.{◌≡◌, ℕ, Bool, List, sym, subst, Some}
use Rattle.std.specs.Prelude.{slice_get}
use Rattle.csn_desc.specs.declared.node.Node.{Node}
use Rattle.csn_desc.specs.declared.node.Node.TheVariants.{Named}
use Rattle.csn_desc.specs.Nodes.{DescV, parts_of}
use Rattle.csn_look.specs.declared.node_sets.NodeSets.{NodeSets}
use Rattle.csn_look.specs.declared.word.TheConstants.{MOST_WORD}
use Rattle.csn_look.specs.NodeSets.{SetsAre, NodeSetsAre, IsKnown, AreKnown}
use Rattle.csn_look.specs.Nullable.{Nullable, NodeNullable, nullable_named}
use Rattle.csn_look.specs.Ends.{InEnds, NodeEnds, ends_named}
use Rattle.csn_look.specs.Starts.{InStart, NodeStarts, starts_named}
use Rattle.csn_look.specs.Keys.{InKeys, NodeKeys, keys_named}
use Rattle.csn_look.proofs.Sets.Telling.{retell}

module _ (d : DescV) where
  -- ---- a labelled part

  named_null : {label : List ℕ} {i : ℕ} → NodeNullable d (Named label i) → Nullable d i
  named_null (nullable_named h) = h

  named_end : {label : List ℕ} {i o p : ℕ} → NodeEnds d (Named label i) o p → InEnds d i o p
  named_end (ends_named h) = h

  named_start : {label : List ℕ} {i o bit : ℕ} → NodeStarts d (Named label i) o bit → InStart d i o bit
  named_start (starts_named h) = h

  named_key : {label : List ℕ} {i o : ℕ} {x : List ℕ} {mark : Bool} → NodeKeys d MOST_WORD (Named label i) o x mark → InKeys d MOST_WORD i o x mark
  named_key (keys_named h) = h

  pub named_sets : (label : List ℕ) (i : ℕ) (s : NodeSets) → SetsAre d i s → NodeSetsAre d (Named label i) s
  named_sets label i s t =
      retell t
      ((λ h. nullable_named h), (λ h. named_null h))
      (λ o p small. ((λ h. ends_named h), (λ h. named_end h)))
      (λ o bit. ((λ h. starts_named h), (λ h. named_start h)))
      (λ mark. ((λ h. keys_named h), (λ h. named_key h)))

  -- ---- at a node of some kind

  pub parts_of_kind : (n m : Node) (known : List NodeSets) → n ≡ m → AreKnown d known (parts_of n) → AreKnown d known (parts_of m)
  parts_of_kind n m known same are = subst (λ k. AreKnown d known (parts_of k)) same are

  pub part_of_kind : (n m : Node) (part : ℕ) (known : List NodeSets) → n ≡ m → slice_get (parts_of m) 0 ≡ Some part
      → AreKnown d known (parts_of n) → IsKnown d known part
  part_of_kind n m part known same at are = parts_of_kind n m known same are 0 part at

  pub of_kind : (n m : Node) (s : NodeSets) → n ≡ m → NodeSetsAre d m s → NodeSetsAre d n s
  of_kind n m s same t = subst (λ k. NodeSetsAre d k s) (sym same) t
