-- Each tree is larger than those in it.
use Rattle.std.specs.Prelude.{◌≤◌}
use Rattle.std.proofs.Common.{arith}
use Rattle.csn_desc.specs.declared.tree.Shape.{Shape}
use Rattle.csn_desc.specs.declared.tree.Shape.TheVariants.{Empty, Bits, Row, Alt, Named}
use Rattle.csn_desc.specs.declared.tree.Tree.TheDeep.{deep-Shape}
use Rattle.csn_desc.specs.ShapeView.{shape_view}
use Rattle.csn_desc.specs.TreeCode.{tree_size, most_le-rows_size}

-- no tree inside is as large as the whole
pub deep_le-tree_size : (s : Shape) → deep-Shape s ≤ tree_size (shape_view s)
deep_le-tree_size Empty = omega arith
deep_le-tree_size (Bits b) = omega arith
deep_le-tree_size (Row ts) = omega (arith, most_le-rows_size ts)
deep_le-tree_size (Alt j t) = omega arith
deep_le-tree_size (Named l t) = omega arith
