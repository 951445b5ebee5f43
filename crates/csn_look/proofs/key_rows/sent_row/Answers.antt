use Rattle.std.proofs.Common.{◌≡◌, ℕ, [], ◌∷◌, ◌++◌, Bool, List, ap, ◌∙◌, subst}
use Rattle.csn_desc.specs.declared.reading.Reading.TheVariants.{Sent}
use Rattle.csn_look.specs.KeyRows.{HasTable, IsSpareKey}
use Rattle.csn_look.proofs.Tables.ProductsMade.{has_leaf}
use Rattle.csn_look.proofs.Tables.RowFacts.{row_next}
use Rattle.csn_look.proofs.Tables.RowKeys.{sent_spare}
use Rattle.csn_look.proofs.key_rows.sent_row.Goals as goal

pub loop-octet-preserved : goal.loop-octet-preserved
loop-octet-preserved c =
    let new = c.keep_key.new.self in
    let octet = c.loop-octet.octet in
    let bit = c.bit_of_symbol.result in
    let at = c.in_ok-row.field-0 in
    let keys = IsSpareKey Sent c.args.symbol c.args.whole in
    let word : c.with-word.result ≡ bit ∷ [] = c.with-word.ensures.value ∙ ap (λ l. l ++ bit ∷ []) c.new.ensures in
    let P : List ℕ → Type 0 = λ w. HasTable new at (λ key mark. (key ≡ w) × (mark ≡ c.args.whole)) in
    let Q : List ℕ → Bool → Type 0 = λ key mark. (key ≡ bit ∷ []) × (mark ≡ c.args.whole) in
    row_next c.args.tables.now c.loop-octet.tables new c.loop-octet.row octet at keys c.loop-octet-test.true c.loop-octet.invariant
    (record {
      more = c.in_ok-row.ensures.more;
      table = has_leaf new at Q (keys octet) (sent_spare c.args.symbol c.args.whole octet bit c.bit_of_symbol.ensures) (subst P word c.in_ok-row.ensures.kept);
    })
