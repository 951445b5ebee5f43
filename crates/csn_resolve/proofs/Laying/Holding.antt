-- Nodes that stand one behind the other in a list, from a number on.
use Rattle.std.proofs.Common.{◌≡◌, ℕ, suc, ◌+◌, List, [], ◌∷◌, ◌++◌, length, length-append, append_assoc, subst, arith, Some, sym, ◌∙◌, ap}
use Rattle.std.specs.Prelude.{slice_get}
use Rattle.csn_desc.specs.declared.node.Node.{Node}
use Rattle.csn_desc.proofs.Entering.{get_here}
use Rattle.csn_resolve.specs.Gives.{Placed, placed}
use Rattle.csn_resolve.specs.Resolved.{nodes_of}

-- a node that is looked up by its number told otherwise
pub node_from : (all : List Node) {i j : ℕ} {n : Node} → i ≡ j → slice_get all i ≡ Some n → slice_get all j ≡ Some n
node_from all p h = ap (slice_get all) (sym p) ∙ h

module _ (all : List Node) where
  -- from the number `at` on, the nodes are these
  abbrev pub Holds : ℕ → List Placed → Type 0
  Holds at [] = Unit {0}
  Holds at (p ∷ nodes) = (slice_get all at ≡ Some p.node) × Holds (suc at) nodes

  pub holds_along : (at : ℕ) {nodes others : List Placed} → nodes ≡ others → Holds at nodes → Holds at others
  holds_along at p h = let P : List Placed → Type 0 = λ z. Holds at z in subst P p h

  pub holds_from : {at bt : ℕ} (nodes : List Placed) → at ≡ bt → Holds at nodes → Holds bt nodes
  holds_from nodes p h = let P : ℕ → Type 0 = λ z. Holds z nodes in subst P p h

  pub holds_first : (at : ℕ) (first rest : List Placed) → Holds at (first ++ rest) → Holds at first
  holds_first at [] rest h = tt
  holds_first at (p ∷ first) rest h = (h.0, holds_first (suc at) first rest h.1)

  pub holds_rest : (at : ℕ) (first rest : List Placed) → Holds at (first ++ rest) → Holds (at + length first) rest
  holds_rest at [] rest h = holds_from rest (omega arith) h
  holds_rest at (p ∷ first) rest h = holds_from rest (omega arith) (holds_rest (suc at) first rest h.1)

  -- what stands behind a node
  pub inner_holds :
      (n : Node) (at s : ℕ) (nodes inner : List Placed)
      → nodes ≡ placed n s ∷ inner → Holds at nodes → Holds (suc at) inner
  inner_holds n at s nodes inner p h = let here = holds_along at p h in here.1

holds_in :
    {all other : List Node} (at : ℕ) (nodes : List Placed)
    → all ≡ other → Holds all at nodes → Holds other at nodes
holds_in at nodes p h = let P : List Node → Type 0 = λ z. Holds z at nodes in subst P p h

-- each list of nodes holds itself
pub holds_behind : (front : List Node) (nodes : List Placed) → Holds (front ++ nodes_of nodes) (length front) nodes
holds_behind front [] = tt
holds_behind front (p ∷ nodes) =
    let later = holds_behind (front ++ p.node ∷ []) nodes in (
      get_here front p.node (nodes_of nodes),
      holds_from (front ++ nodes_of (p ∷ nodes)) nodes (omega (arith, length-append front (p.node ∷ [])))
          (holds_in (length (front ++ p.node ∷ [])) nodes (append_assoc front (p.node ∷ []) (nodes_of nodes)) later),
    )
