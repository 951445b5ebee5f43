use Rattle.std.proofs.Common.{◌-◌, ℕ, List, sym, subst, arith, ◌∙◌}
use Rattle.std.proofs.Math.ListN.{length-set}
use Rattle.csn_desc.specs.Nodes.{parts_of}
use Rattle.csn_desc.proofs.Numbering.{parts_later}
use Rattle.csn_look.specs.KeyRows.{IsRowed, AreRowed}
use Rattle.csn_look.proofs.Tables.RowsMade.{node_row, rowed_more}
use Rattle.csn_look.proofs.key_rows.rows_of.Goals as goal

pub node-requires-in-loop-i : goal.node-requires-in-loop-i
node-requires-in-loop-i c =
    let d = c.args.desc.now in
    let node = c.node.result.now in
    subst (λ (rows : List (List ℕ)). AreRowed d c.loop-i.tables rows (parts_of node)) (sym c.as_slice.ensures.value)
    (parts_later d (c.loop-i.i - 1) node (IsRowed d c.loop-i.tables c.loop-i.rows.items) c.len-count.ensures.description c.node.ensures
    (λ j low high. c.loop-i.invariant.1 j (omega (arith, low)) high))

pub loop-i-preserved : goal.loop-i-preserved
loop-i-preserved c =
    let d = c.args.desc.now in
    let items = c.loop-i.rows.items in
    let at = c.loop-i.i - 1 in
    let row = c.in_ok-row.row in
    let new = c.node-in-loop-i.new.tables in (
      length-set items at row ∙ c.loop-i.invariant.0,
      rowed_more d c.loop-i.tables new items at row c.loop-i.invariant.0 c.in_ok-row.ensures.more
          (node_row d new row at c.node.result.now c.node.ensures c.in_ok-row.ensures.has)
          (λ j low high. c.loop-i.invariant.1 j (omega (arith, low)) high),
    )
