use Rattle.std.proofs.Common.{◌≡◌, ℕ, Bool, List, length, sym, subst}
use Rattle.csn_desc.specs.declared.reading.Reading.{Reading}
use Rattle.csn_desc.specs.declared.reading.Reading.TheVariants.{Received}
use Rattle.csn_look.specs.KeyRows.{Makes, IsSpareKey}
use Rattle.csn_look.proofs.Tables.ProductsMade.{has_leaf}
use Rattle.csn_look.proofs.Tables.RowFacts.{makes_same}
use Rattle.csn_look.proofs.Tables.RowKeys.{received_spare}
use Rattle.csn_look.proofs.key_rows.spare_row.Goals as goal

pub returns-in_ok-at-in-Received : goal.returns-in_ok-at-in-Received
returns-in_ok-at-in-Received c =
    let old = c.args.tables.now in
    let new = c.keep_words.new.self in
    let at = c.in_ok-at-in-Received.at in
    let row = c.same.result in
    let keys = IsSpareKey Received c.args.symbol c.args.whole in
    let P : List ℕ → Bool → Type 0 = λ key mark. (length key ≡ 1) × (mark ≡ c.args.whole) in
    let Q : Reading → Type 0 = λ r. Makes old new row (IsSpareKey r c.args.symbol c.args.whole) in
    subst Q (sym c.in-Received.is)
    (makes_same old new row at keys c.same.ensures.eight c.same.ensures.same c.in_ok-at-in-Received.ensures.more
    (λ o low. has_leaf new at P (keys o) (received_spare c.args.symbol c.args.whole o) c.in_ok-at-in-Received.ensures.kept))
