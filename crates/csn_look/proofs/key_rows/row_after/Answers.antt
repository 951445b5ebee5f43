use Rattle.std.proofs.Common.{arith, ℕ, ◌+◌, ◌%◌, ◌<◌, length, sym, subst}
use Rattle.csn_look.specs.KeyRows.{RowAfter}
use Rattle.csn_look.proofs.Tables.RowFacts.{row_next, after_at, after_same, makes_same, tables_stay}
use Rattle.csn_look.proofs.key_rows.row_after.Goals as goal

pub loop-octet-preserved : goal.loop-octet-preserved
loop-octet-preserved c =
    let start = c.args.tables.now in
    let mid = c.loop-octet.tables in
    let new = c.keep_after-in-loop-octet.new.self in
    let first = c.args.first.now in
    let rest = c.args.rest.now in
    let at = c.in_ok-row.field-0 in
    row_next start mid new c.loop-octet.row c.loop-octet.octet at (RowAfter start first rest) c.loop-octet-test.true c.loop-octet.invariant
    (after_at start mid new first rest c.turned.result c.loop-octet.octet at (omega (arith, c.loop-octet-test.true))
    c.loop-octet.invariant.more c.requires.first c.requires.rest c.turned.ensures
    (record { more = c.in_ok-row.ensures.more; table = c.in_ok-row.ensures.kept }))

pub returns-then-is_same-2 : goal.returns-then-is_same-2
returns-then-is_same-2 c =
    let start = c.args.tables.now in
    let new = c.keep_after.new.self in
    let first = c.args.first.now in
    let rest = c.args.rest.now in
    let at = c.in_ok-at.at in
    makes_same start new c.same.result at (RowAfter start first rest) c.same.ensures.eight c.same.ensures.same c.in_ok-at.ensures.more
    (λ o low. after_same start new first rest at o low (c.is_same.ensures c.if-is_same.true)
    (c.is_same-then-is_same.ensures c.if-is_same-2.true) c.in_ok-at.ensures.kept)

pub keep_after-requires-clause-first : goal.keep_after-requires-clause-first
keep_after-requires-clause-first c = c.requires.first 0 (omega arith)

pub keep_after-requires-clause-rests : goal.keep_after-requires-clause-rests
keep_after-requires-clause-rests c = λ size small. c.requires.rest size (omega (arith, small))

pub keep_after-requires-in-loop-octet-clause-first : goal.keep_after-requires-in-loop-octet-clause-first
keep_after-requires-in-loop-octet-clause-first c =
    tables_stay c.args.tables.now c.loop-octet.tables c.args.first.now c.loop-octet.invariant.more c.requires.first
    c.loop-octet.octet (omega (arith, c.loop-octet-test.true))

pub keep_after-requires-in-loop-octet-clause-rests : goal.keep_after-requires-in-loop-octet-clause-rests
keep_after-requires-in-loop-octet-clause-rests c = λ size small.
    subst (λ (at : ℕ). at < length c.loop-octet.tables) (sym (c.turned.ensures size small))
    (tables_stay c.args.tables.now c.loop-octet.tables c.args.rest.now c.loop-octet.invariant.more c.requires.rest
    ((c.loop-octet.octet + size) % 8) (omega arith))
