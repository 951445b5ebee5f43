use Rattle.std.proofs.Common.{◌≡◌, ◌+◌, ap, sym, ◌∙◌, subst, arith, suc, add-one}
use Rattle.csn_desc.specs.TreeV.{row, trees_of}
use Rattle.csn_desc.specs.ShapeView.{shape_view}
use Rattle.csn_treetext.specs.Fits.{FitsInside, AllFitInside}
use Rattle.csn_treetext.proofs.Rows.{smaller_in_row}
use Rattle.csn_treetext.proofs.Fitting.{room_for, member_fits, all_from_first}
use Rattle.csn_treetext.proofs.bounds.+fits_inside.Goals as goal

pub returns-then-round-eq-MOST_LEVELS : goal.returns-then-round-eq-MOST_LEVELS
returns-then-round-eq-MOST_LEVELS t c =
    ((λ h. cc), (λ h. absurd (omega (arith, room_for c.args.round c.args.tree.now h))))

pub fits_inside-requires : goal.fits_inside-requires
fits_inside-requires t c =
    (omega (arith, smaller_in_row _ _ c.in-Row.rows c.loop-at.at c.get.result.now c.tree.view_is c.in-Row.is c.get.ensures, c.decreases), omega arith)

pub returns-then-not-fits_inside : goal.returns-then-not-fits_inside
returns-then-not-fits_inside t c =
    let whole : c.args.tree.now ≡ row (trees_of c.in-Row.rows) = sym c.tree.view_is ∙ ap shape_view c.in-Row.is in
    let next : suc c.args.round ≡ c.args.round + 1 = sym (add-one c.args.round) in (
      (λ h. cc),
      (λ h.
          let all = (subst (FitsInside c.args.round) whole h).1 in
          let here = member_fits _ c.in-Row.rows c.loop-at.at c.get.result.now c.get.ensures all in
          let yes = c.fits_inside.ensures.1 (subst (λ n. FitsInside n c.get.result.now) next here) in
          cc),
    )

pub returns-after-loop-at : goal.returns-after-loop-at
returns-after-loop-at t c =
    let whole : c.args.tree.now ≡ row (trees_of c.in-Row.rows) = sym c.tree.view_is ∙ ap shape_view c.in-Row.is in
    let next : c.args.round + 1 ≡ suc c.args.round = add-one c.args.round in
    let all = all_from_first (c.args.round + 1) c.in-Row.rows (λ k u low is. c.loop-at.invariant k u (omega arith) is) in
    let inside : FitsInside c.args.round (row (trees_of c.in-Row.rows)) = (omega arith, subst (λ n. AllFitInside n (trees_of c.in-Row.rows)) next all) in
    ((λ h. subst (FitsInside c.args.round) (sym whole) inside), (λ h. cc))
