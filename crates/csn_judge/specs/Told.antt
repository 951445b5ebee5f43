-- What a track is told of the moves of a block: each move, with the node that begins, that takes the bit, or that
-- ends.
use Rattle.std.specs.Prelude.{◌≡◌, ℕ, List, [], ◌∷◌, slice_get, Some}
use Rattle.csn_desc.specs.declared.moves.Move.{Move}
use Rattle.csn_desc.specs.declared.moves.Move.TheVariants.{Enter, Bit, Leave}
use Rattle.csn_desc.specs.declared.node.Node.{Node}
use Rattle.csn_desc.specs.TreeV.{TreeV}
use Rattle.csn_desc.specs.Nodes.{DescV}
use Rattle.csn_desc.specs.Values.{Values}
use Rattle.csn_desc.specs.Means.{NMeans}
use Rattle.csn_desc.specs.Walks.{Walk}

-- from one state to another by the moves of a node's bits, where `takes` says which states a move makes of one
abbrev pub BitsTold : {S : Type 0} → (S → Move → Node → S → Type 0) → Node → List ℕ → S → S → Type 0
BitsTold takes node [] old new = new ≡ old
BitsTold {S} takes node (bit ∷ rest) old new =
    (next : S) × takes old (Bit bit) node next × BitsTold takes node rest next new

module _ (d : DescV) {S : Type 0} (takes : S → Move → Node → S → Type 0) where
  -- from some open nodes, the innermost first, to others, and from one state to another, by these moves
  pub data Tells : List ℕ → List Move → List ℕ → S → S → Type 0 where
    tells_none : {around others : List ℕ} {old new : S} → others ≡ around → new ≡ old → Tells around [] others old new
    tells_enter :
        {around others : List ℕ} {i : ℕ} {moves : List Move} {old new : S}
        (node : Node) (next : S) → slice_get d.nodes i ≡ Some node → takes old (Enter i) node next
        → Tells (i ∷ around) moves others next new
        → Tells around (Enter i ∷ moves) others old new
    tells_bit :
        {around others : List ℕ} {i bit : ℕ} {moves : List Move} {old new : S}
        (node : Node) (next : S) → slice_get d.nodes i ≡ Some node → takes old (Bit bit) node next
        → Tells (i ∷ around) moves others next new
        → Tells (i ∷ around) (Bit bit ∷ moves) others old new
    tells_leave :
        {around others : List ℕ} {i : ℕ} {moves : List Move} {old new : S}
        (node : Node) (next : S) → slice_get d.nodes i ≡ Some node → takes old Leave node next
        → Tells around moves others next new
        → Tells (i ∷ around) (Leave ∷ moves) others old new

  -- from one state to another by all moves of node i for these bits, which are a string of it, wherever it stands
  abbrev pub WholeTold : ℕ → List ℕ → S → S → Type 0
  WholeTold i b old new =
      (o : ℕ) (v : Values) (t : TreeV) (moves : List Move) (around : List ℕ) → NMeans d i o v b t → Walk d i o t moves → Tells around moves around old new
