use Rattle.std.proofs.Common.{◌≡◌, take, refl, ap, sym, ◌∙◌, arith}
use Rattle.std.proofs.lemmas.List.{take_all}
use Rattle.csn_desc.specs.TreeV.{row, trees_of}
use Rattle.csn_desc.specs.declared.tree.Shape.TheVariants.{Row}
use Rattle.csn_desc.specs.ShapeView.{shape_view}
use Rattle.csn_treetext.proofs.Rows.{smaller_in_row, have_next}
use Rattle.serde_json.specs.Data.{array}
use Rattle.serde_json.specs.View.{items_view}
use Rattle.serde_json.proofs.Views.{view-Array}
use Rattle.csn_json.specs.JsonTree.{json_of, items_of}
use Rattle.csn_json.proofs.Writing.{next_item}
use Rattle.csn_json.proofs.write.+write.Goals as goal

-- ---- the values of a row

pub items_of-value_of-requires : goal.items_of-value_of-requires
items_of-value_of-requires t c = (
  omega (
    arith,
    smaller_in_row (row (trees_of c.args.rows.now)) (Row c.args.rows.now)
        c.args.rows.now c.loop-at.at c.get.result.now refl refl c.get.ensures,
    c.decreases,
  ),
  tt,
)

pub items_of-loop-at-preserved : goal.items_of-loop-at-preserved
items_of-loop-at-preserved t c =
    let rows = c.args.rows.now in
    let at = c.loop-at.at in
    let wrote = c.in_ok-item in (
      ap items_view c.in_ok-push.ensures.items ∙ next_item c.loop-at.items.items wrote.item rows at c.get.result.now
          c.get.ensures c.loop-at.invariant.0 wrote.ensures.value,
      have_next rows at c.get.result.now c.get.ensures c.loop-at.invariant.1 wrote.ensures.parts,
    )

pub items_of-returns : goal.items_of-returns
items_of-returns t c =
    let all : take c.loop-at.at c.args.rows.now ≡ c.args.rows.now = take_all c.loop-at.at c.args.rows.now
    (omega (arith, c.loop-at-test.false, c.len-at-end.ensures.len)) in record {
      values = c.loop-at.invariant.0 ∙ ap (λ ts. items_of (trees_of ts)) all;
      parts = rw (sym all) c.loop-at.invariant.1;
    }

-- ---- a tree

pub value_of-returns-in_ok-items_of-in-Row-clause-value : goal.value_of-returns-in_ok-items_of-in-Row-clause-value
value_of-returns-in_ok-items_of-in-Row-clause-value t c =
    let whole = sym c.tree.view_is ∙ ap shape_view c.in-Row.is in
    view-Array c.in_ok-items_of-in-Row.field-0 ∙ ap array c.in_ok-items_of-in-Row.ensures.values ∙ ap json_of (sym whole)
