use Rattle.std.proofs.Common.{◌≡◌, ◌↔◌, ℕ, [], Bool, true, false, List, refl, sym, subst}
use Rattle.csn_desc.specs.declared.reading.Reading.{Reading}
use Rattle.csn_desc.specs.declared.symbol.Symbol.{Symbol}
use Rattle.csn_desc.specs.declared.symbol.Symbol.TheVariants.{Low}
use Rattle.csn_desc.specs.declared.node.Node.{Node}
use Rattle.csn_desc.specs.declared.node.Node.TheVariants.{Named}
use Rattle.csn_look.specs.Keys.{InKeys, NodeKeys, PartsKeys}
use Rattle.csn_look.specs.KeyRows.{IsSpareKey, Makes}
use Rattle.csn_look.proofs.Tables.RowFacts.{more_none, row_as}
use Rattle.csn_look.proofs.Tables.RowKeys.{spare_node, pad_node, null_node, rest_node, many_node, trunc_node, window_node, seq_node, named_node}
use Rattle.csn_look.proofs.Tables.RowsMade.{gives_as, rowed_parts, rowed_part}
use Rattle.csn_look.proofs.key_rows.Rowed.node.Goals as goal

-- spare keys in an equal reading
along :
    (reading other : Reading) (s : Symbol) (whole : Bool) (o : ℕ) (word : List ℕ) (mark : Bool) (P : Type 0) → other ≡ reading
    → (IsSpareKey reading s whole o word mark ↔ P) → IsSpareKey other s whole o word mark ↔ P
along reading other s whole o word mark P e h = let Q : Reading → Type 0 = λ r. IsSpareKey r s whole o word mark ↔ P in subst Q (sym e) h

pub sequence-requires : goal.sequence-requires
sequence-requires c = rowed_parts c.args.self.now.desc.now c.args.tables.now c.args.self.now.rows.now c.args.node.now _ c.in-Seq.is c.requires

pub choice-requires : goal.choice-requires
choice-requires c = rowed_parts c.args.self.now.desc.now c.args.tables.now c.args.self.now.rows.now c.args.node.now _ c.in-Choice.is c.requires

pub times-requires : goal.times-requires
times-requires c = rowed_part c.args.self.now.desc.now c.args.tables.now c.args.self.now.rows.now c.args.node.now _
    c.in-Times.part c.in-Times.is refl c.requires

pub of-requires : goal.of-requires
of-requires c = rowed_part c.args.self.now.desc.now c.args.tables.now c.args.self.now.rows.now c.args.node.now _ c.in-Named.part c.in-Named.is refl c.requires

pub returns-in-Spare : goal.returns-in-Spare
returns-in-Spare c =
    let d = c.args.self.now.desc.now in
    let s = c.in-Spare.symbol in
    gives_as d c.spare_row.result c.args.tables.now c.spare_row.new.tables (IsSpareKey c.reading.result s true) c.args.node.now _ c.in-Spare.is
    (λ o word mark. along d.reading c.reading.result s true o word mark _ c.reading.ensures (spare_node d s o word mark)) c.spare_row.ensures

pub returns-in-Pad : goal.returns-in-Pad
returns-in-Pad c =
    let d = c.args.self.now.desc.now in
    gives_as d c.spare_row-in-Pad.result c.args.tables.now c.spare_row-in-Pad.new.tables
    (IsSpareKey c.reading-in-Pad.result Low false) c.args.node.now _ c.in-Pad.is
    (λ o word mark. along d.reading c.reading-in-Pad.result Low false o word mark _ c.reading-in-Pad.ensures
    (pad_node d o word mark)) c.spare_row-in-Pad.ensures

pub returns-in-Null : goal.returns-in-Null
returns-in-Null c =
    let d = c.args.self.now.desc.now in
    gives_as d c.empty_row.result c.args.tables.now c.empty_row.new.tables (λ o word mark. (word ≡ []) × (mark ≡ true)) c.args.node.now _ c.in-Null.is
    (λ o word mark. null_node d o word mark) c.empty_row.ensures

pub returns-in-Rest : goal.returns-in-Rest
returns-in-Rest c =
    let d = c.args.self.now.desc.now in
    gives_as d c.empty_row-in-Rest.result c.args.tables.now c.empty_row-in-Rest.new.tables (λ o word mark. (word ≡ [])
    × (mark ≡ false)) c.args.node.now _ c.in-Rest.is
    (λ o word mark. rest_node d o word mark) c.empty_row-in-Rest.ensures

pub returns-in-Seq : goal.returns-in-Seq
returns-in-Seq c =
    let d = c.args.self.now.desc.now in
    gives_as d c.sequence.result c.args.tables.now c.sequence.new.tables (PartsKeys d 12 c.in-Seq.parts) c.args.node.now _ c.in-Seq.is
    (λ o word mark. seq_node d o word mark c.in-Seq.parts) c.sequence.ensures

pub returns-in-Many : goal.returns-in-Many
returns-in-Many c =
    let d = c.args.self.now.desc.now in
    gives_as d c.empty_row-in-Many.result c.args.tables.now c.empty_row-in-Many.new.tables (λ o word mark. (word ≡ [])
    × (mark ≡ false)) c.args.node.now _ c.in-Many.is
    (λ o word mark. many_node d o word mark c.in-Many.field-0) c.empty_row-in-Many.ensures

pub returns-in-Trunc : goal.returns-in-Trunc
returns-in-Trunc c =
    let d = c.args.self.now.desc.now in
    gives_as d c.empty_row-in-Trunc.result c.args.tables.now c.empty_row-in-Trunc.new.tables
    (λ o word mark. (word ≡ []) × (mark ≡ false)) c.args.node.now _ c.in-Trunc.is
    (λ o word mark. trunc_node d o word mark c.in-Trunc.field-0) c.empty_row-in-Trunc.ensures

pub returns-in-Window : goal.returns-in-Window
returns-in-Window c =
    let d = c.args.self.now.desc.now in
    gives_as d c.empty_row-in-Window.result c.args.tables.now c.empty_row-in-Window.new.tables
    (λ o word mark. (word ≡ []) × (mark ≡ false)) c.args.node.now _ c.in-Window.is
    (λ o word mark. window_node d o word mark c.in-Window.unit c.in-Window.count c.in-Window.part) c.empty_row-in-Window.ensures

pub returns-in-Named : goal.returns-in-Named
returns-in-Named c =
    let d = c.args.self.now.desc.now in
    let tables = c.args.tables.now in
    let P : Node → Type 0 = λ n. Makes tables tables c.of.result (NodeKeys d 12 n) in
    subst P (sym c.in-Named.is)
    (record {
      more = more_none tables;
      has = row_as tables c.of.result (InKeys d 12 c.in-Named.part)
          (NodeKeys d 12 (Named c.in-Named.label c.in-Named.part)) c.of.ensures
          (λ o word mark low is. named_node d o word mark c.in-Named.label c.in-Named.part);
    })
