use Rattle.std.proofs.Common.{List, refl, sym, subst, IfOk}
use Rattle.csn_desc.specs.declared.node.Node.TheVariants.{Lits, Spare, Pad, Null, Field, Rest, Seq, Choice, Times, Many, Trunc, Window, Named}
use Rattle.csn_cert.specs.PatternV.{PatternV}
use Rattle.csn_certmake.specs.Patterns.{IsRow, patterns_in, turns_of}
use Rattle.csn_certmake.proofs.Nodes.{parts_rows, only_there, only_row, node_row, leaf_row}
use Rattle.csn_certmake.proofs.pattern_table.row_of.Goals as goal

pub bounds-rows-part : goal.bounds-rows-part
bounds-rows-part c = only_there c.args.rows.now c.in-Times.part (parts_rows c.args.rows.now c.args.node.now
    (Times c.in-Times.count c.in-Times.part) c.in-Times.is c.requires)

pub turns-requires : goal.turns-requires
turns-requires c =
    (only_row c.args.rows.now c.in-Times.part c.index-rows-part.result (parts_rows c.args.rows.now c.args.node.now
    (Times c.in-Times.count c.in-Times.part) c.in-Times.is c.requires) c.index-rows-part.is).1.eight

pub bounds-rows-part-in-Named : goal.bounds-rows-part-in-Named
bounds-rows-part-in-Named c = only_there c.args.rows.now c.in-Named.part (parts_rows c.args.rows.now c.args.node.now
    (Named c.in-Named.label c.in-Named.part) c.in-Named.is c.requires)

pub copied-requires : goal.copied-requires
copied-requires c =
    (only_row c.args.rows.now c.in-Named.part c.index-rows-part-in-Named.result
    (parts_rows c.args.rows.now c.args.node.now (Named c.in-Named.label c.in-Named.part) c.in-Named.is c.requires)
    c.index-rows-part-in-Named.is).1

pub returns-in-Seq : goal.returns-in-Seq
returns-in-Seq c = node_row c.sequence.result c.args.reading c.args.rows.now c.args.node.now (Seq c.in-Seq.parts) c.in-Seq.is c.sequence.ensures

pub returns-in-Choice : goal.returns-in-Choice
returns-in-Choice c = node_row c.choice.result c.args.reading c.args.rows.now c.args.node.now (Choice c.in-Choice.parts) c.in-Choice.is c.choice.ensures

pub returns-in-Times : goal.returns-in-Times
returns-in-Times c =
    let found = only_row c.args.rows.now c.in-Times.part c.index-rows-part.result
    (parts_rows c.args.rows.now c.args.node.now (Times c.in-Times.count c.in-Times.part) c.in-Times.is c.requires)
    c.index-rows-part.is in
    node_row c.turns.result c.args.reading c.args.rows.now c.args.node.now (Times c.in-Times.count c.in-Times.part) c.in-Times.is
    (subst (λ (r : List (List PatternV)). IfOk c.turns.result (λ row. IsRow (turns_of (patterns_in r) c.in-Times.count) row)) (sym found.0) c.turns.ensures)

pub returns-in-Named : goal.returns-in-Named
returns-in-Named c =
    let found = only_row c.args.rows.now c.in-Named.part c.index-rows-part-in-Named.result
    (parts_rows c.args.rows.now c.args.node.now (Named c.in-Named.label c.in-Named.part) c.in-Named.is c.requires)
    c.index-rows-part-in-Named.is in
    node_row c.copied.result c.args.reading c.args.rows.now c.args.node.now (Named c.in-Named.label c.in-Named.part) c.in-Named.is
    (subst (λ (r : List (List PatternV)). IfOk c.copied.result (λ row. IsRow (patterns_in r) row)) (sym found.0) c.copied.ensures)

pub returns-in-Lits : goal.returns-in-Lits
returns-in-Lits c = leaf_row c.alone.result c.args.reading c.args.rows.now c.args.node.now (Lits c.in-Lits.field-0) c.in-Lits.is refl c.alone.ensures

pub returns-in-Spare : goal.returns-in-Spare
returns-in-Spare c = leaf_row c.alone-in-Spare.result c.args.reading c.args.rows.now c.args.node.now
    (Spare c.in-Spare.field-0) c.in-Spare.is refl c.alone-in-Spare.ensures

pub returns-in-Pad : goal.returns-in-Pad
returns-in-Pad c = leaf_row c.alone-in-Pad.result c.args.reading c.args.rows.now c.args.node.now Pad c.in-Pad.is refl c.alone-in-Pad.ensures

pub returns-in-Null : goal.returns-in-Null
returns-in-Null c = leaf_row c.alone-in-Null.result c.args.reading c.args.rows.now c.args.node.now Null c.in-Null.is refl c.alone-in-Null.ensures

pub returns-in-Field : goal.returns-in-Field
returns-in-Field c = leaf_row c.alone-in-Field.result c.args.reading c.args.rows.now c.args.node.now
    (Field c.in-Field.unit c.in-Field.count) c.in-Field.is refl c.alone-in-Field.ensures

pub returns-in-Rest : goal.returns-in-Rest
returns-in-Rest c = leaf_row c.alone-in-Rest.result c.args.reading c.args.rows.now c.args.node.now Rest c.in-Rest.is refl c.alone-in-Rest.ensures

pub returns-in-Many : goal.returns-in-Many
returns-in-Many c = leaf_row c.alone-in-Many.result c.args.reading c.args.rows.now c.args.node.now
    (Many c.in-Many.field-0) c.in-Many.is refl c.alone-in-Many.ensures

pub returns-in-Trunc : goal.returns-in-Trunc
returns-in-Trunc c = leaf_row c.alone-in-Trunc.result c.args.reading c.args.rows.now c.args.node.now
    (Trunc c.in-Trunc.field-0) c.in-Trunc.is refl c.alone-in-Trunc.ensures

pub returns-in-Window : goal.returns-in-Window
returns-in-Window c = leaf_row c.alone-in-Window.result c.args.reading c.args.rows.now c.args.node.now
    (Window c.in-Window.unit c.in-Window.count c.in-Window.part) c.in-Window.is refl c.alone-in-Window.ensures
