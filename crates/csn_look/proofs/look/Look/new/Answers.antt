use Rattle.std.proofs.Common.{ℕ, List, length, sym, subst}
use Rattle.csn_look.specs.LookV.{AreRows}
use Rattle.csn_look.specs.LookKeys.{IsKeysOf}
use Rattle.csn_look.proofs.Tables.RowsMade.{keys_of, rows_are}
use Rattle.csn_look.proofs.look.Look.new.Goals as goal

pub invariant_of-result : goal.invariant_of-result
invariant_of-result c =
    let rows = c.in_ok-rows.rows.items in
    let P : List (List ℕ) → Type 0 = λ tables. AreRows (length tables) rows in
    subst P (sym c.into_tables-tables.ensures) (rows_are c.args.desc.now c.rows_of.new.tables rows c.in_ok-rows.ensures)

pub returns-clause-keys : goal.returns-clause-keys
returns-clause-keys c =
    let d = c.args.desc.now in
    let sets = c.in_ok-sets.sets.items in
    let rows = c.in_ok-rows.rows.items in
    let P : List (List ℕ) → Type 0 = λ tables. IsKeysOf d (record { sets = sets; tables = tables; rows = rows }) in
    subst P (sym c.into_tables-tables.ensures) (keys_of d sets c.rows_of.new.tables rows c.in_ok-rows.ensures)
