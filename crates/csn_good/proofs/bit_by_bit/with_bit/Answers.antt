use Rattle.std.proofs.Common.{length, refl}
use Rattle.std.proofs.lemmas.Option.{slice_get_read}
use Rattle.csn_good.proofs.ListsMeeting.{with_none, with_next, with_all}
use Rattle.csn_good.proofs.bit_by_bit.with_bit.Goals as goal

pub loop-pattern-init : goal.loop-pattern-init
loop-pattern-init c = with_none c.args.patterns.now c.args.at c.args.bit c.new-some.result.items c.new-some.ensures.items

pub loop-pattern-preserved : goal.loop-pattern-preserved
loop-pattern-preserved c =
    let items = c.args.patterns.now in
    let at = slice_get_read items (length items) c.loop-pattern.pattern-index c.pattern-item.result refl c.loop-pattern-test.true c.pattern-item.is in
    with_next items c.args.at c.loop-pattern.pattern-index c.args.bit c.pattern-item.result c.loop-pattern.some.items
    c.push_with_bit.new.some.items at c.in_ok-push_with_bit.ensures c.loop-pattern.invariant

pub returns : goal.returns
returns c = with_all c.args.patterns.now c.args.at c.loop-pattern.pattern-index c.args.bit c.loop-pattern.some.items
    c.loop-pattern-test.false c.loop-pattern.invariant
