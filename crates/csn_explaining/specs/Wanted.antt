-- What a node is, in words, and what is wanted where a block is refused. (This project's own choice.)
use Rattle.std.specs.Prelude.{ℕ, ◌*◌, min, List, [], ◌∷◌, ◌++◌, codes, length, map, slice_get, Option, Some, None, ◌==◌, if◌then◌else◌}
use Rattle.std.specs.Fmt.{decimal}
use Rattle.csn_desc.specs.TreeV.{TreeV, empty, bits, row, alt, named, list_of}
use Rattle.csn_desc.specs.declared.symbol.Symbol.{Symbol}
use Rattle.csn_desc.specs.declared.symbol.Symbol.TheVariants.{Zero, One, Low, High}
use Rattle.csn_desc.specs.declared.node.Count.{Count}
use Rattle.csn_desc.specs.declared.node.Count.TheVariants.{Fixed, Counted}
use Rattle.csn_desc.specs.declared.node.Node.{Node}
use Rattle.csn_desc.specs.declared.node.Node.TheVariants.{Lits, Spare, Pad, Null, Field, Rest, Seq, Choice, Times, Many, Trunc, Window, Named}
use Rattle.csn_fields.specs.declared.refusal.Refusal.{Refusal}
use Rattle.csn_fields.specs.declared.refusal.OpenNode.{OpenNode}
use Rattle.csn_fields.specs.Reading.{left_in}
use Rattle.csn_explaining.specs.Texts.{counted_text}

-- the letter for a symbol of a literal
abbrev pub symbol_letter : Symbol → ℕ
symbol_letter Zero = 48
symbol_letter One = 49
symbol_letter Low = 76
symbol_letter High = 72

-- a field of so many units
abbrev pub field_text : ℕ → Count → List ℕ
field_text unit (Fixed n) = codes "field of " ++ counted_text (min (unit * n) 4294967295) (codes "bit")
field_text unit (Counted m field c) = codes "field of a counted width"

-- what a node is
abbrev pub node_text : Node → List ℕ
node_text (Lits run) = codes "literal " ++ map symbol_letter run
node_text (Spare symbol) = codes "spare bit"
node_text Pad = codes "spare padding"
node_text Null = codes "no bits"
node_text (Field unit count) = field_text unit count
node_text Rest = codes "any bits"
node_text (Seq parts) = codes "sequence of " ++ counted_text (length parts) (codes "part")
node_text (Choice parts) = codes "one of " ++ counted_text (length parts) (codes "alternative")
node_text (Times count part) = codes "counted repetition"
node_text (Many part) = codes "repetition"
node_text (Trunc parts) = codes "truncation of " ++ counted_text (length parts) (codes "part")
node_text (Window unit count part) = codes "window"
node_text (Named label part) = 60 ∷ (label ++ 62 ∷ [])

-- what a tree is
abbrev pub tree_text : TreeV → List ℕ
tree_text empty = codes "nothing"
tree_text (bits list) = counted_text (length list) (codes "bit")
tree_text (row trees) = codes "row of " ++ counted_text (length (list_of trees)) (codes "tree")
tree_text (alt number tree) = codes "alternative " ++ decimal number
tree_text (named label tree) = 60 ∷ (label ++ 62 ∷ [])

-- the label of a node, where it is a labelled part
abbrev pub label_of : Option Node → Option (List ℕ)
label_of (Some (Named label part)) = Some label
label_of _ = None

-- what a node is, where there is one
abbrev pub some_node_text : Option Node → List ℕ
some_node_text None = []
some_node_text (Some node) = node_text node

-- how many bits are left, where that is known
abbrev pub left_text : Option ℕ → List ℕ
left_text None = []
left_text (Some left) = codes ", " ++ (counted_text left (codes "bit") ++ codes " left")

-- what is wanted at a place in a node that began at another: the node, and how many of its bits are left
abbrev pub open_text : (begun place : ℕ) → Option Node → List ℕ
open_text begun place None = []
open_text begun place (Some node) = node_text node ++ left_text (left_in begun place node)

-- what is wanted at a place where this node is the innermost that began, or none is: the root where nothing has begun
abbrev pub wanted_in : List Node → ℕ → Option OpenNode → List ℕ
wanted_in nodes place (Some open_node) = open_text open_node.place place (slice_get nodes open_node.node)
wanted_in nodes place None = if place == 0 then some_node_text (slice_get nodes 0) else codes "end of the block"

-- what was wanted where a block was refused
abbrev pub wanted_text : List Node → Refusal → List ℕ
wanted_text nodes refusal = wanted_in nodes refusal.place refusal.within
