-- The nodes of a description in numbers alone, as a program in another language has them. (This project's own choice.)
use Rattle.std.specs.Prelude.{◌≡◌, ℕ, Option, Some, None, slice_get}
use Rattle.csn_desc.specs.declared.node.Node.{Node}
use Rattle.csn_desc.specs.declared.node.Node.TheVariants.{Lits, Spare, Field, Rest, Pad, Null, Seq, Choice, Times, Many, Trunc}
use Rattle.csn_desc.specs.declared.node.Node.TheVariants.{Window, Named}
use Rattle.csn_desc.specs.Nodes.{DescV}
use Rattle.csn_fields.specs.Leaves.{width_of}
use Rattle.csn_rule.specs.declared.shape.NodeShape.{NodeShape}

-- the numbers of the kinds of node; those of leaves are as in events
abbrev pub number_of_node : Node → ℕ
number_of_node (Lits run) = 1
number_of_node (Spare symbol) = 2
number_of_node (Field unit count) = 3
number_of_node Rest = 4
number_of_node Pad = 5
number_of_node Null = 7
number_of_node (Seq parts) = 8
number_of_node (Choice parts) = 9
number_of_node (Times count part) = 10
number_of_node (Many part) = 11
number_of_node (Trunc parts) = 12
number_of_node (Window unit count part) = 13
number_of_node (Named label part) = 14

-- a number of bits, or the largest number of 32 bits
abbrev pub bits_or_any : Option ℕ → ℕ
bits_or_any (Some bits) = bits
bits_or_any None = 4294967295

abbrev pub shape_of : Node → NodeShape
shape_of node = record { kind = number_of_node node; bits = bits_or_any (width_of node) }

-- a node of a description has this shape
abbrev pub HasShape : DescV → ℕ → NodeShape → Type 0
HasShape d i shape = (node : Node) × (slice_get d.nodes i ≡ Some node) × (shape ≡ shape_of node)
