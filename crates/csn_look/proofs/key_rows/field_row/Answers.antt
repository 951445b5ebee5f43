use Rattle.std.proofs.Common.{◌≡◌, ◌*◌, ℕ, [], Bool, false, List, sym, subst}
use Rattle.std.proofs.lemmas.Result.{IfOk-weaker}
use Rattle.csn_desc.specs.declared.node.Count.{Count}
use Rattle.csn_desc.specs.declared.node.Count.TheVariants.{Fixed, Counted}
use Rattle.csn_desc.specs.declared.node.Node.TheVariants.{Field}
use Rattle.csn_look.specs.Keys.{NodeKeys}
use Rattle.csn_look.specs.KeyRows.{Makes}
use Rattle.csn_look.proofs.Tables.ProductsMade.{has_leaf}
use Rattle.csn_look.proofs.Tables.RowFacts.{makes_as, makes_same}
use Rattle.csn_look.proofs.Tables.RowKeys.{FieldKey, field_node, counted_field}
use Rattle.csn_look.proofs.key_rows.field_row.Goals as goal

pub returns-in_ok-at-in-Fixed : goal.returns-in_ok-at-in-Fixed
returns-in_ok-at-in-Fixed c = λ d.
    let old = c.args.tables.now in
    let new = c.field_table.new.tables in
    let unit = c.args.unit in
    let n = c.in-Fixed.n in
    let at = c.in_ok-at-in-Fixed.at in
    let row = c.same.result in
    let keys = NodeKeys d 12 (Field unit (Fixed n)) in
    let Q : Count → Type 0 = λ count. Makes old new row (NodeKeys d 12 (Field unit count)) in
    subst Q (sym c.in-Fixed.is)
    (makes_same old new row at keys c.same.ensures.eight c.same.ensures.same c.in_ok-at-in-Fixed.ensures.more
    (λ o low. has_leaf new at (FieldKey (unit * n)) (keys o) (λ word mark is. field_node d unit n o word mark) c.in_ok-at-in-Fixed.ensures.kept))

pub returns-in-Counted : goal.returns-in-Counted
returns-in-Counted c = λ d.
    let old = c.args.tables.now in
    let new = c.empty_row.new.tables in
    let unit = c.args.unit in
    let empty : ℕ → List ℕ → Bool → Type 0 = λ o word mark. (word ≡ []) × (mark ≡ false) in
    let count = Counted c.in-Counted.m c.in-Counted.field c.in-Counted.c in
    IfOk-weaker c.empty_row.result (λ (row : List ℕ). Makes old new row empty) (λ (row : List ℕ). Makes old new row (NodeKeys d 12 (Field unit c.args.count)))
    (λ row h.
    let Q : Count → Type 0 = λ k. Makes old new row (NodeKeys d 12 (Field unit k)) in
    subst Q (sym c.in-Counted.is)
    (makes_as old new row empty (NodeKeys d 12 (Field unit count)) h
    (λ o word mark low is. counted_field d o word mark unit c.in-Counted.m c.in-Counted.field c.in-Counted.c)))
    c.empty_row.ensures
