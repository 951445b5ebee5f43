use Rattle.std.proofs.Common.{length, refl, arith}
use Rattle.std.proofs.lemmas.Option.{slice_get_read}
use Rattle.csn_good.proofs.ListsMeeting.{short_none, short_next}
use Rattle.csn_good.proofs.bit_by_bit.has_short.Goals as goal

pub loop-pattern-init : goal.loop-pattern-init
loop-pattern-init c = (short_none c.args.patterns.now c.args.at, λ low. absurd (omega arith))

pub loop-pattern-preserved : goal.loop-pattern-preserved
loop-pattern-preserved c =
    let items = c.args.patterns.now in
    let at = slice_get_read items (length items) c.loop-pattern.pattern-index c.pattern-item.result refl c.loop-pattern-test.true c.pattern-item.is in
    let count = c.len.ensures.count in
    let few = c.len.ensures.few in
    let long = c.if-len-at.false in (
      short_next items c.args.at c.loop-pattern.pattern-index c.pattern-item.result at (omega arith) c.loop-pattern.invariant.0,
      λ low. omega arith,
    )
