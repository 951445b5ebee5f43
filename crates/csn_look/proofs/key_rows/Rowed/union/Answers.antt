use Rattle.std.proofs.Common.{ℕ, List, sym, subst, arith}
use Rattle.csn_look.specs.KeyMarks.{KeysAre}
use Rattle.csn_look.specs.Keys.{InKeys}
use Rattle.csn_look.proofs.Tables.RowKeys.{choice_none, choice_next, choice_all}
use Rattle.csn_look.proofs.key_rows.Rowed.union.Goals as goal

pub loop-at-init : goal.loop-at-init
loop-at-init c = choice_none c.args.self.now.desc.now c.args.parts.now c.args.octet c.in_ok-table.table c.in_ok-table.ensures

pub loop-at-preserved : goal.loop-at-preserved
loop-at-preserved c =
    let d = c.args.self.now.desc.now in
    let other = c.get-in-loop-at.result.now in
    let P : List ℕ → Type 0 = λ m. KeysAre m (InKeys d 12 c.get.result c.args.octet) in
    choice_next d c.args.parts.now c.args.octet c.loop-at.table c.add_all.new.self other c.loop-at.at c.get.result c.get.ensures c.loop-at.invariant
    (subst P (sym c.get-in-loop-at.ensures) (c.of-row.ensures.keys c.args.octet c.requires.octet).keys)
    c.in_ok-add_all.ensures.added

pub returns : goal.returns
returns c = choice_all c.args.self.now.desc.now c.args.parts.now c.args.octet c.loop-at.table c.loop-at.at
    (omega (arith, c.len-at-end.ensures.len)) c.loop-at.invariant

pub of-row-requires : goal.of-row-requires
of-row-requires c = c.requires.rowed c.loop-at.at c.get.result c.get.ensures

pub bounds-row-octet : goal.bounds-row-octet
bounds-row-octet c = omega (arith, c.of-row.ensures.eight, c.requires.octet)

pub get-requires-in-loop-at : goal.get-requires-in-loop-at
get-requires-in-loop-at c = (c.of-row.ensures.keys c.args.octet c.requires.octet).within
