use Rattle.std.proofs.Common.{arith}
use Rattle.std.proofs.lemmas.Option.{slice_get_within}
use Rattle.csn_look.proofs.Tables.RowKeys.{alike_next}
use Rattle.csn_look.proofs.key_rows.Rowed.are_same.Goals as goal

pub loop-at-preserved : goal.loop-at-preserved
loop-at-preserved c =
    alike_next c.args.self.now.desc.now c.args.tables.now c.args.parts.now c.of.result c.loop-at.at c.get.result
    c.get.ensures c.of.ensures (c.is_same.ensures c.if-not-is_same.false) c.loop-at.invariant

pub returns : goal.returns
returns c = λ yes j i o word mark at low is.
    let inside = slice_get_within c.args.parts.now j i at in
    c.loop-at.invariant j i o word mark (omega (arith, inside, c.len-at-end.ensures.len, c.loop-at-test.false)) at low is
