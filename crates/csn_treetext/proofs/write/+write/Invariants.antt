use Rattle.std.proofs.Common.{◌≡◌, ◌++◌, ◌∷◌, take}
use Rattle.csn_desc.specs.TreeV.{trees_of}
use Rattle.csn_desc.specs.TreeCode.{tree_size, rows_size}
use Rattle.csn_treetext.specs.declared.version.Version.TheVariants.{Second}
use Rattle.csn_treetext.specs.Text.{row_text}
use Rattle.csn_desc.specs.TreeParts.{AllHaveTreeParts}
use Rattle.csn_treetext.proofs.write.+write.Given as goal

abbrev pub decreases-push_tree : goal.decreases-push_tree
decreases-push_tree l = tree_size l.tree.now

abbrev pub decreases-push_row : goal.decreases-push_row
decreases-push_row l = rows_size l.rows.now

abbrev pub invariant-push_row-loop-at : goal.invariant-push_row-loop-at
invariant-push_row-loop-at l =
    (l.out.items ≡ l.fn.out.items ++ 91 ∷ row_text Second (trees_of (take l.at l.rows))) × AllHaveTreeParts (trees_of (take l.at l.rows))
