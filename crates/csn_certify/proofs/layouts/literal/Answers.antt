use Rattle.std.proofs.Common.{◌≤◌, ◌+◌, ◌^◌, arith}
use Rattle.std.proofs.Math.Nat.{pow-le-pow_right}
use Rattle.csn_certify.proofs.LayoutNumbers.{writes_more, literal_layout}
use Rattle.csn_certify.proofs.layouts.literal.Goals as goal

pub overflow_add-number : goal.overflow_add-number
overflow_add-number c =
    let at = c.loop-at.at in
    let more = writes_more c.args.run.now at c.loop-at.number c.in_ok-number.field-0 c.get.result.now c.get.ensures
    c.in_ok-number.ensures c.loop-at.invariant in
    let room : at + 1 ≤ 56 = omega (arith, c.loop-at-test.true, c.if-width-gt-MOST_WIDTH.false) in
    let power : 2 ^ (at + 1) ≤ 2 ^ 56 = pow-le-pow_right {n = 2} (omega arith) room in
    omega (arith, more.0, power)

pub loop-at-preserved : goal.loop-at-preserved
loop-at-preserved c =
    writes_more c.args.run.now c.loop-at.at c.loop-at.number c.in_ok-number.field-0 c.get.result.now c.get.ensures c.in_ok-number.ensures c.loop-at.invariant

pub returns : goal.returns
returns c = λ d.
    literal_layout d c.args.run.now c.len-width.result c.loop-at.at c.loop-at.number c.len-width.ensures.len c.if-width-gt-MOST_WIDTH.false
    (let end = c.loop-at.auto in omega (arith, c.loop-at-test.false, end.at-end)) c.loop-at.invariant
