-- How a tree grows along the moves of a block: what is kept of it between two moves, and what a move makes of that.
-- (This project's own choice.)
use Rattle.std.specs.Prelude.{◌≡◌, ℕ, Bool, true, false, if◌then◌else◌, List, [], ◌∷◌, ◌++◌, slice_get, Option, Some, None, IfSome}
use Rattle.csn_desc.specs.declared.moves.Move.{Move}
use Rattle.csn_desc.specs.declared.moves.Move.TheVariants.{Enter, Bit, Leave}
use Rattle.csn_desc.specs.declared.node.Node.{Node}
use Rattle.csn_desc.specs.declared.node.Node.TheVariants.{Lits, Spare, Pad, Null, Field, Rest, Seq, Choice, Times, Many, Trunc, Window, Named}
use Rattle.csn_desc.specs.TreeV.{TreeV, empty, bits, row, alt, named, trees_of}
use Rattle.csn_decode.specs.declared.open.Open.{Open}
use Rattle.csn_decode.specs.declared.open.Ended.{Ended}
use Rattle.csn_decode.specs.declared.open.Inside.{Inside}
use Rattle.csn_decode.specs.declared.open.Inside.TheVariants.{Leaf, Row, Part}

-- the nodes that have begun and not ended, the innermost first, with the trees of their parts; the bits of the leaf
-- that is open; and the tree of the root, where it has ended
pub record BuiltV : Type 0 where
  pub nodes : List Open
  pub bits : List ℕ
  pub whole : Option TreeV

-- nothing of a tree
abbrev pub nothing : BuiltV
nothing = record { nodes = []; bits = []; whole = None }

-- what a node has of its tree where it begins
abbrev pub begun : Node → Inside
begun (Lits run) = Leaf
begun (Spare symbol) = Leaf
begun Pad = Leaf
begun Null = Leaf
begun (Field unit count) = Leaf
begun Rest = Leaf
begun (Seq parts) = Row []
begun (Choice parts) = Part None
begun (Times count part) = Row []
begun (Many part) = Row []
begun (Trunc parts) = Row []
begun (Window unit count part) = Part None
begun (Named label part) = Part None

-- one more node is open
abbrev pub with_node : Open → BuiltV → BuiltV
with_node last v = record { nodes = last ∷ v.nodes; bits = v.bits; whole = v.whole }

-- a node begins
abbrev pub entered : ℕ → Node → BuiltV → BuiltV
entered i node v = with_node (record { node = i; inside = begun node }) v

abbrev pub is_literal : Node → Bool
is_literal (Lits run) = true
is_literal _ = false

-- the innermost node takes some bits; those of a literal are in no tree
abbrev pub with_bits : Bool → List ℕ → List ℕ → List ℕ
with_bits literal taken b = if literal then b else b ++ taken

abbrev pub took_all : Node → List ℕ → BuiltV → BuiltV
took_all node taken v = record { nodes = v.nodes; bits = with_bits (is_literal node) taken v.bits; whole = v.whole }

-- a part has ended with its tree
abbrev pub with_part : ℕ → TreeV → Inside → Inside
with_part i t Leaf = Leaf
with_part i t (Row ts) = Row (ts ++ t ∷ [])
with_part i t (Part before) = Part (Some (record { node = i; tree = t }))

abbrev pub part_of_first : ℕ → TreeV → List Open → List Open
part_of_first i t [] = []
part_of_first i t (last ∷ outer) = record { node = last.node; inside = with_part i t last.inside } ∷ outer

-- the root alone is in no node
abbrev pub whole_with : TreeV → List Open → Option TreeV → Option TreeV
whole_with t [] before = Some t
whole_with t (last ∷ outer) before = before

-- the tree of a node goes to the node that it is in
abbrev pub given : ℕ → TreeV → BuiltV → BuiltV
given i t v =
    record { nodes = part_of_first i t v.nodes; bits = v.bits; whole = whole_with t v.nodes v.whole }

-- is it a leaf whose bits are its tree?
abbrev pub has_bits : Node → Bool
has_bits (Spare symbol) = true
has_bits Pad = true
has_bits (Field unit count) = true
has_bits Rest = true
has_bits _ = false

-- such a leaf leaves no bits where it ends
abbrev pub bits_behind : Bool → List ℕ → List ℕ
bits_behind leaf b = if leaf then [] else b

abbrev pub bits_left : Node → BuiltV → BuiltV
bits_left node v = record { nodes = v.nodes; bits = bits_behind (has_bits node) v.bits; whole = v.whole }

-- the tree of a node that ends, with these trees of its parts and these bits
abbrev pub IsTree : Node → Inside → List ℕ → TreeV → Type 0
IsTree (Lits run) inside b t = t ≡ empty
IsTree (Spare symbol) inside b t = t ≡ bits b
IsTree Pad inside b t = t ≡ bits b
IsTree Null inside b t = t ≡ empty
IsTree (Field unit count) inside b t = t ≡ bits b
IsTree Rest inside b t = t ≡ bits b
IsTree (Seq parts) inside b t = (ts : List TreeV) × (inside ≡ Row ts) × (t ≡ row (trees_of ts))
IsTree (Choice parts) inside b t =
    (part : Ended) × (at : ℕ) × (inside ≡ Part (Some part)) × (slice_get parts at ≡ Some part.node) × (t ≡ alt at part.tree)
IsTree (Times count i) inside b t = (ts : List TreeV) × (inside ≡ Row ts) × (t ≡ row (trees_of ts))
IsTree (Many i) inside b t = (ts : List TreeV) × (inside ≡ Row ts) × (t ≡ row (trees_of ts))
IsTree (Trunc parts) inside b t = (ts : List TreeV) × (inside ≡ Row ts) × (t ≡ row (trees_of ts))
IsTree (Window unit count i) inside b t = (part : Ended) × (inside ≡ Part (Some part)) × (t ≡ part.tree)
IsTree (Named label i) inside b t = (part : Ended) × (inside ≡ Part (Some part)) × (t ≡ named label part.tree)

-- the innermost node ends
pub record Leaves (node : Node) (old new : BuiltV) : Type 0 where
  pub last : Open
  pub outer : BuiltV
  pub tree : TreeV
  pub opened : old ≡ with_node last outer
  pub tree_is : IsTree node last.inside outer.bits tree
  pub behind : new ≡ given last.node tree (bits_left node outer)

-- what a move makes
abbrev pub Grows : BuiltV → Move → Node → BuiltV → Type 0
Grows old (Enter i) node new = new ≡ entered i node old
Grows old (Bit bit) node new = new ≡ took_all node (bit ∷ []) old
Grows old Leave node new = Leaves node old new

-- none where memory was refused
abbrev pub unless : Bool → BuiltV → Option BuiltV
unless true v = None
unless false v = Some v

-- what a move makes while there is memory; nothing is made again once it was refused
pub record GrewFrom (old : Option BuiltV) (move : Move) (node : Node) (new : BuiltV) : Type 0 where
  pub before : BuiltV
  pub old_is : old ≡ Some before
  pub grows : Grows before move node new

abbrev pub Makes : Option BuiltV → Move → Node → Option BuiltV → Type 0
Makes old move node new = IfSome new (λ v. GrewFrom old move node v)

-- the tree of the root
abbrev pub whole_of : Option BuiltV → Option TreeV
whole_of None = None
whole_of (Some v) = v.whole
