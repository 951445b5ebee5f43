use Rattle.std.proofs.Common.{◌≡◌, ◌+◌, ◌*◌, take}
use Rattle.csn_desc.specs.TreeV.{trees_of}
use Rattle.csn_desc.specs.TreeCode.{tree_size, rows_size}
use Rattle.csn_desc.specs.TreeParts.{AllHaveTreeParts}
use Rattle.serde_json.specs.View.{items_view}
use Rattle.csn_json.specs.JsonTree.{items_of}
use Rattle.csn_json.proofs.write.+write.Given as goal

abbrev pub decreases-value_of : goal.decreases-value_of
decreases-value_of l = 2 * tree_size l.tree.now

abbrev pub decreases-items_of : goal.decreases-items_of
decreases-items_of l = 2 * rows_size l.rows.now + 1

abbrev pub invariant-items_of-loop-at : goal.invariant-items_of-loop-at
invariant-items_of-loop-at l =
    (items_view l.items.items ≡ items_of (trees_of (take l.at l.rows))) × AllHaveTreeParts (trees_of (take l.at l.rows))
