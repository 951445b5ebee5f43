use Rattle.std.proofs.Common.{◌≡◌, ℕ, [], Bool, List, subst}
use Rattle.csn_look.specs.KeyRows.{HasTable}
use Rattle.csn_look.proofs.Tables.RowFacts.{makes_same}
use Rattle.csn_look.proofs.key_rows.empty_row.Goals as goal

pub returns : goal.returns
returns c =
    let new = c.keep_key.new.self in
    let at = c.in_ok-at.at in
    let empty : ℕ → List ℕ → Bool → Type 0 = λ o word mark. (word ≡ []) × (mark ≡ c.args.whole) in
    let P : List ℕ → Type 0 = λ l. HasTable new at (λ word mark. (word ≡ l) × (mark ≡ c.args.whole)) in
    makes_same c.args.tables.now new c.same.result at empty c.same.ensures.eight c.same.ensures.same
    c.in_ok-at.ensures.more (λ o low. subst P c.new.ensures c.in_ok-at.ensures.kept)
