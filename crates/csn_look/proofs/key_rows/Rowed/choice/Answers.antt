use Rattle.std.proofs.Common.{arith}
use Rattle.csn_desc.specs.declared.node.Node.TheVariants.{Choice}
use Rattle.csn_look.specs.Keys.{NodeKeys, InKeys}
use Rattle.csn_look.proofs.Tables.RowFacts.{row_next, kept_table, same_tables, row_stays, row_all}
use Rattle.csn_look.proofs.Tables.RowKeys.{choice_alike}
use Rattle.csn_look.proofs.key_rows.Rowed.choice.Goals as goal

pub returns-then-are_same : goal.returns-then-are_same
returns-then-are_same c =
    let d = c.args.self.now.desc.now in
    let alike = choice_alike d c.args.parts.now c.in_ok-table.table (c.are_same.ensures c.if-are_same.true) c.in_ok-table.ensures in
    same_tables c.same_row.result c.args.tables.now c.same_row.new.tables c.in_ok-table.table
    (NodeKeys d 12 (Choice c.args.parts.now)) alike c.same_row.ensures

pub loop-octet-preserved : goal.loop-octet-preserved
loop-octet-preserved c =
    let keys = NodeKeys c.args.self.now.desc.now 12 (Choice c.args.parts.now) in
    row_next c.args.tables.now c.loop-octet.tables c.keep.new.self c.loop-octet.row c.loop-octet.octet
    c.in_ok-row.field-0 keys c.loop-octet-test.true c.loop-octet.invariant
    (kept_table c.loop-octet.tables c.keep.new.self c.in_ok-row.field-0 c.in_ok-table-2.table
    (keys c.loop-octet.octet) c.in_ok-row.ensures.more c.in_ok-row.ensures.kept.0 c.in_ok-row.ensures.kept.1
    c.in_ok-table-2.ensures)

pub union-requires-clause-rowed : goal.union-requires-clause-rowed
union-requires-clause-rowed c = c.requires

pub union-requires-in-loop-octet-clause-rowed : goal.union-requires-in-loop-octet-clause-rowed
union-requires-in-loop-octet-clause-rowed c = λ j i at.
    let rowed = c.requires j i at in
    (rowed.0, rowed.1, row_stays c.args.tables.now c.loop-octet.tables rowed.0 (InKeys c.args.self.now.desc.now 12 i) c.loop-octet.invariant.more rowed.2)

pub returns : goal.returns
returns c =
    row_all c.args.tables.now c.loop-octet.tables c.loop-octet.row c.loop-octet.octet (NodeKeys c.args.self.now.desc.now 12 (Choice c.args.parts.now))
    (omega (arith, c.loop-octet-test.false)) c.loop-octet.invariant
