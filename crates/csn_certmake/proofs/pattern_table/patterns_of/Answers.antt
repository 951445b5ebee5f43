use Rattle.std.proofs.Common.{◌-◌, List, sym, subst, arith, ◌∙◌}
use Rattle.std.proofs.Math.ListN.{length-set}
use Rattle.csn_desc.specs.Nodes.{parts_of}
use Rattle.csn_cert.specs.PatternV.{PatternV}
use Rattle.csn_certmake.specs.Patterns.{IsRow, AreRows, node_patterns}
use Rattle.csn_certmake.proofs.Later.{parts_have_rows, rows_more}
use Rattle.csn_certmake.proofs.pattern_table.patterns_of.Goals as goal

pub row_of-requires : goal.row_of-requires
row_of-requires c =
    subst (λ (rows : List (List (List PatternV))). AreRows rows (parts_of c.node.result.now)) (sym c.as_slice.ensures.value)
    (parts_have_rows c.args.desc.now c.loop-i.rows.items (c.loop-i.i - 1) c.node.result.now c.loop-i.invariant.0 c.len-count.ensures.description c.node.ensures
    (λ j low high. c.loop-i.invariant.1 j (omega (arith, low)) high))

pub loop-i-preserved : goal.loop-i-preserved
loop-i-preserved c =
    let made = subst (λ (rows : List (List (List PatternV))). IsRow
    (node_patterns c.reading.result rows c.node.result.now) c.in_ok-row.row)
    c.as_slice.ensures.value c.in_ok-row.ensures in
    let d = c.args.desc.now in
    let items = c.loop-i.rows.items in
    let at = c.loop-i.i - 1 in
    let part = c.in_ok-rows-2.field-0 in
    let node = c.node.result.now in (
      length-set items at part ∙ c.loop-i.invariant.0,
      rows_more d items at node c.in_ok-row.row part c.reached.result c.loop-i.invariant.0
          (omega (arith, c.loop-i.auto.i, c.len-count.ensures.len, c.loop-i-test.true))
          c.len-count.ensures.description c.node.ensures
          (subst (λ r. IsRow (node_patterns r items node) c.in_ok-row.row) c.reading.ensures made) (c.reached.ensures d c.requires) c.in_ok-rows-2.ensures
          (λ j low high. c.loop-i.invariant.1 j (omega (arith, low)) high),
    )

pub returns-clause-rows : goal.returns-clause-rows
returns-clause-rows c =
    record {
      same = c.loop-i.invariant.0;
      each = λ j high. c.loop-i.invariant.1 j (omega (arith, c.loop-i-test.false)) high;
    }
