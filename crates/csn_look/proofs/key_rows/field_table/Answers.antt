use Rattle.std.proofs.Common.{◌≡◌, ℕ, Bool, true, false, List, length}
use Rattle.std.proofs.lemmas.Result.{IfOk-weaker}
use Rattle.csn_look.specs.KeyRows.{HasTable}
use Rattle.csn_look.proofs.Tables.RowKeys.{FieldKey, wide_field, narrow_field}
use Rattle.csn_look.proofs.Tables.ProductsMade.{has_leaf}
use Rattle.csn_look.proofs.key_rows.field_table.Goals as goal

pub returns-then-width-clause-kept : goal.returns-then-width-clause-kept
returns-then-width-clause-kept c =
    let new = c.keep_words.new.self in
    let P : List ℕ → Bool → Type 0 = λ key mark. (length key ≡ 12) × (mark ≡ false) in
    IfOk-weaker c.keep_words.result (λ (at : ℕ). HasTable new at P) (λ (at : ℕ). HasTable new at (FieldKey c.args.width))
    (λ at has. has_leaf new at P (FieldKey c.args.width) (wide_field c.args.width c.if-width.true) has)
    c.keep_words.ensures.kept

pub returns-else-width-clause-kept : goal.returns-else-width-clause-kept
returns-else-width-clause-kept c =
    let new = c.keep_words-else-width.new.self in
    let P : List ℕ → Bool → Type 0 = λ key mark. (length key ≡ c.args.width) × (mark ≡ true) in
    IfOk-weaker c.keep_words-else-width.result (λ (at : ℕ). HasTable new at P) (λ (at : ℕ). HasTable new at (FieldKey c.args.width))
    (λ at has. has_leaf new at P (FieldKey c.args.width) (narrow_field c.args.width c.if-width.false) has)
    c.keep_words-else-width.ensures.kept
