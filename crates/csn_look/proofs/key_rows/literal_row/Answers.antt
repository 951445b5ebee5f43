use Rattle.std.proofs.Common.{◌≡◌, ℕ, Bool, List, refl, nat_le}
use Rattle.csn_desc.specs.declared.node.Node.TheVariants.{Lits}
use Rattle.csn_look.specs.Keys.{NodeKeys}
use Rattle.csn_look.proofs.Tables.RowFacts.{row_next, row_all}
use Rattle.csn_look.proofs.Tables.RowKeys.{lits_keys}
use Rattle.csn_look.proofs.Tables.ProductsMade.{has_leaf}
use Rattle.csn_look.proofs.key_rows.literal_row.Goals as goal

pub loop-octet-preserved : goal.loop-octet-preserved
loop-octet-preserved c = λ d.
    let run = c.args.run.now in
    let octet = c.loop-octet.octet in
    let word = c.literal_word.result in
    let whole : Bool = nat_le c.len.result 12 in
    let new = c.keep_key.new.self in
    let at = c.in_ok-row.field-0 in
    let keys = NodeKeys d 12 (Lits run) in
    let P : List ℕ → Bool → Type 0 = λ key mark. (key ≡ word) × (mark ≡ whole) in
    row_next c.args.tables.now c.loop-octet.tables new c.loop-octet.row octet at keys c.loop-octet-test.true (c.loop-octet.invariant d)
    (record {
      more = c.in_ok-row.ensures.more;
      table = has_leaf new at P (keys octet)
          (λ x mark is. lits_keys d run octet c.len.result word whole c.literal_word.ensures c.len.ensures.len refl x
          mark) c.in_ok-row.ensures.kept;
    })

pub returns : goal.returns
returns c = λ d. row_all c.args.tables.now c.loop-octet.tables c.loop-octet.row c.loop-octet.octet
    (NodeKeys d 12 (Lits c.args.run.now)) c.loop-octet-test.false (c.loop-octet.invariant d)
