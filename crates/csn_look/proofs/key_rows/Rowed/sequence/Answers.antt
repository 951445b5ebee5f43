use Rattle.std.proofs.Common.{◌-◌, [], drop, ℕ, List, sym, subst}
use Rattle.csn_look.specs.Keys.{PartsKeys}
use Rattle.csn_look.specs.KeyRows.{Makes}
use Rattle.csn_look.proofs.Sets.Telling.{last_none, last_all, last_more}
use Rattle.csn_look.proofs.Tables.RowFacts.{makes_as}
use Rattle.csn_look.proofs.Tables.RowKeys.{no_parts}
use Rattle.csn_look.proofs.Tables.RowsMade.{rowed_stays, parts_next}
use Rattle.csn_look.proofs.key_rows.Rowed.sequence.Goals as goal

pub loop-at-init : goal.loop-at-init
loop-at-init c =
    let d = c.args.self.now.desc.now in
    let start = c.args.tables.now in
    let new = c.empty_row.new.tables in
    let row = c.in_ok-row.row in
    let P : List ℕ → Type 0 = λ parts. Makes start new row (PartsKeys d 12 parts) in
    subst P (sym (last_none c.args.parts.now c.len-at.result c.len-at.ensures.len))
    (makes_as start new row _ (PartsKeys d 12 []) c.in_ok-row.ensures (λ o word mark low is. no_parts d o word mark))

pub of-first-requires : goal.of-first-requires
of-first-requires c =
    rowed_stays c.args.self.now.desc.now c.args.tables.now c.loop-at.tables c.args.self.now.rows.now c.get.result c.loop-at.invariant.more
    (c.requires (c.loop-at.at - 1) c.get.result c.get.ensures)

pub loop-at-preserved : goal.loop-at-preserved
loop-at-preserved c =
    let d = c.args.self.now.desc.now in
    let start = c.args.tables.now in
    let mid = c.loop-at.tables in
    let new = c.row_after.new.tables in
    let P : List ℕ → Type 0 = λ parts. Makes start new c.in_ok-row-2.row (PartsKeys d 12 parts) in
    subst P (sym (last_more c.args.parts.now c.loop-at.at c.get.result c.loop-at-test.true c.get.ensures))
    (parts_next d start mid new c.of-first.result c.loop-at.row c.in_ok-row-2.row c.get.result
    (drop c.loop-at.at c.args.parts.now) c.of-first.ensures c.loop-at.invariant c.in_ok-row-2.ensures)

pub returns : goal.returns
returns c =
    let d = c.args.self.now.desc.now in
    let P : List ℕ → Type 0 = λ parts. Makes c.args.tables.now c.loop-at.tables c.loop-at.row (PartsKeys d 12 parts) in
    subst P (last_all c.args.parts.now c.loop-at.at c.loop-at-test.false) c.loop-at.invariant
