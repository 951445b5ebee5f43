use Rattle.std.proofs.Common.{◌≡◌, ap, sym, ◌∙◌, subst, arith}
use Rattle.csn_desc.specs.TreeV.{row, trees_of}
use Rattle.csn_desc.specs.ShapeView.{shape_view}
use Rattle.csn_treetext.proofs.Rows.{smaller_in_row}
use Rattle.csn_lines.proofs.AlikeTexts.{AreAlike, all_alike}
use Rattle.csn_lines.proofs.migrate.+is_alike.Goals as goal

pub is_alike-requires : goal.is_alike-requires
is_alike-requires t c =
    (omega (arith, smaller_in_row _ _ c.in-Row.rows c.loop-at.at c.get.result.now c.tree.view_is c.in-Row.is c.get.ensures, c.decreases), tt)

pub returns-after-loop-at : goal.returns-after-loop-at
returns-after-loop-at t c =
    let whole : c.args.tree.now ≡ row (trees_of c.in-Row.rows) = sym c.tree.view_is ∙ ap shape_view c.in-Row.is in
    λ yes. subst AreAlike (sym whole) (all_alike c.in-Row.rows c.loop-at.at c.loop-at.invariant
    (omega (arith, c.loop-at-test.false, c.len-at-end.ensures.len)))
