use Rattle.std.proofs.Common.{◌≡◌, ℕ, [], Bool, false, List, ap}
use Rattle.csn_desc.specs.declared.node.Count.{Count}
use Rattle.csn_desc.specs.declared.node.Count.TheVariants.{Fixed, Counted}
use Rattle.csn_desc.specs.declared.node.Node.TheVariants.{Times}
use Rattle.csn_look.specs.Keys.{InKeys, TimesKeys}
use Rattle.csn_look.proofs.Tables.RowFacts.{row_tables}
use Rattle.csn_look.proofs.Tables.RowKeys.{times_node, counted_times}
use Rattle.csn_look.proofs.Tables.RowsMade.{gives_as}
use Rattle.csn_look.proofs.key_rows.Rowed.times.Goals as goal

pub repeated_row-requires : goal.repeated_row-requires
repeated_row-requires c = row_tables c.args.tables.now c.of-once.result (InKeys c.args.self.now.desc.now 12 c.args.part) c.of-once.ensures

pub returns-in-Fixed : goal.returns-in-Fixed
returns-in-Fixed c =
    let d = c.args.self.now.desc.now in
    let n = c.in-Fixed.n in
    let i = c.args.part in
    gives_as d c.repeated_row.result c.args.tables.now c.repeated_row.new.tables (TimesKeys d 12 n i)
    (Times c.args.count i) (Times (Fixed n) i) (ap (λ (k : Count). Times k i) c.in-Fixed.is)
    (λ o word mark. times_node d o word mark n i)
    (c.repeated_row.ensures d i c.of-once.ensures)

pub returns-in-Counted : goal.returns-in-Counted
returns-in-Counted c =
    let d = c.args.self.now.desc.now in
    let i = c.args.part in
    let empty : ℕ → List ℕ → Bool → Type 0 = λ o word mark. (word ≡ []) × (mark ≡ false) in
    let count = Counted c.in-Counted.m c.in-Counted.field c.in-Counted.c in
    gives_as d c.empty_row.result c.args.tables.now c.empty_row.new.tables empty (Times c.args.count i)
    (Times count i) (ap (λ (k : Count). Times k i) c.in-Counted.is)
    (λ o word mark. counted_times d o word mark c.in-Counted.m c.in-Counted.field c.in-Counted.c i)
    c.empty_row.ensures
