-- What a contract sees of one level of a tree.
use Rattle.csn_desc.specs.declared.tree.Shape.{Shape}
use Rattle.csn_desc.specs.declared.tree.Shape.TheVariants.{Empty, Bits, Row, Alt, Named}
use Rattle.csn_desc.specs.TreeV.{TreeV, empty, bits, row, alt, named, trees_of}

abbrev pub shape_view : Shape → TreeV
shape_view Empty = empty
shape_view (Bits b) = bits b
shape_view (Row ts) = row (trees_of ts)
shape_view (Alt j t) = alt j t.value
shape_view (Named l t) = named l t.value
