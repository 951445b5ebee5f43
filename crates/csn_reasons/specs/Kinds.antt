-- The kinds of node, as they are told.
use Rattle.std.specs.Prelude.{ℕ, List, codes}
use Rattle.csn_desc.specs.declared.node.Node.{Node}
use Rattle.csn_desc.specs.declared.node.Node.TheVariants.{Lits, Spare, Pad, Null, Field, Rest, Seq, Choice, Times, Many, Trunc, Window, Named}
use Rattle.csn_reasons.specs.declared.kind.NodeKind.{NodeKind}
use Rattle.csn_reasons.specs.declared.kind.NodeKind.TheVariants as kind

-- the kind of a node
abbrev pub kind_of : Node → NodeKind
kind_of (Lits run) = kind.Literal
kind_of (Spare symbol) = kind.Spare
kind_of Pad = kind.Padding
kind_of Null = kind.Null
kind_of (Field unit count) = kind.Field
kind_of Rest = kind.Rest
kind_of (Seq parts) = kind.Sequence
kind_of (Choice parts) = kind.Choice
kind_of (Times count part) = kind.Repetition
kind_of (Many part) = kind.Repetition
kind_of (Trunc parts) = kind.Truncation
kind_of (Window unit count part) = kind.Window
kind_of (Named label part) = kind.Label

-- the word for a kind
abbrev pub kind_word : NodeKind → List ℕ
kind_word kind.Literal = codes "literal"
kind_word kind.Spare = codes "spare"
kind_word kind.Padding = codes "padding"
kind_word kind.Null = codes "null"
kind_word kind.Field = codes "field"
kind_word kind.Rest = codes "rest"
kind_word kind.Sequence = codes "sequence"
kind_word kind.Choice = codes "choice"
kind_word kind.Repetition = codes "repetition"
kind_word kind.Truncation = codes "truncation"
kind_word kind.Window = codes "window"
kind_word kind.Label = codes "label"
