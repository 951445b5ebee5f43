-- The leaves among the nodes of a description: those without parts that take bits. They are the literals, spare parts and
-- fields of CSN.1, 3GPP TS 24.007 Annex B.
use Rattle.std.specs.Prelude.{ℕ, ◌*◌, nat_lt, if◌then◌else◌, List, length, Option, Some, None}
use Rattle.csn_bits.specs.Numbers.{number_of}
use Rattle.csn_desc.specs.declared.node.Count.{Count}
use Rattle.csn_desc.specs.declared.node.Count.TheVariants.{Fixed, Counted}
use Rattle.csn_desc.specs.declared.node.Node.{Node}
use Rattle.csn_desc.specs.declared.node.Node.TheVariants.{Lits, Spare, Pad, Field, Rest}
use Rattle.csn_desc.specs.TreeV.{TreeV, empty, bits}
use Rattle.csn_desc.specs.Spelled.{spelled}
use Rattle.csn_fields.specs.declared.leaf.LeafKind.{LeafKind}
use Rattle.csn_fields.specs.declared.leaf.LeafKind.TheVariants as kind

-- the kind of a node that is a leaf
abbrev pub kind_of : Node → Option LeafKind
kind_of (Lits run) = Some kind.Literal
kind_of (Spare symbol) = Some kind.Spare
kind_of Pad = Some kind.Padding
kind_of (Field unit count) = Some kind.Field
kind_of Rest = Some kind.Rest
kind_of _ = None

-- a number, where 32 bits hold it
abbrev pub fitting : ℕ → Option ℕ
fitting n = if nat_lt n 4294967296 then Some n else None

-- how many bits so many units have, where that is the same in all blocks
abbrev pub counted_width : ℕ → Count → Option ℕ
counted_width unit (Fixed n) = fitting (unit * n)
counted_width unit (Counted m field c) = None

-- how many bits a leaf has, where that is the same in all blocks
abbrev pub width_of : Node → Option ℕ
width_of (Lits run) = Some (length run)
width_of (Spare symbol) = Some 1
width_of (Field unit count) = counted_width unit count
width_of _ = None

-- the bits of a leaf that begins at a place and has this tree; those of a literal are not in its tree
abbrev pub bits_of_leaf : Node → ℕ → TreeV → Option (List ℕ)
bits_of_leaf (Lits run) from empty = Some (spelled run from)
bits_of_leaf (Spare symbol) from (bits b) = Some b
bits_of_leaf Pad from (bits b) = Some b
bits_of_leaf (Field unit count) from (bits b) = Some b
bits_of_leaf Rest from (bits b) = Some b
bits_of_leaf _ from t = None

-- the number that at most 64 bits write
abbrev pub number_in : List ℕ → Option ℕ
number_in b = if nat_lt (length b) 65 then Some (number_of b) else None
