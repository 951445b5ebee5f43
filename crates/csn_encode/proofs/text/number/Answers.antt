use Rattle.std.proofs.Common.{arith}
use Rattle.csn_encode.proofs.Texts.{first_digit, digit_more}
use Rattle.csn_encode.proofs.text.number.Goals as goal

pub loop-digit-init : goal.loop-digit-init
loop-digit-init c = first_digit c.in_ok-first.first c.from-number.result _ _ c.in_ok-first.ensures.value c.in_ok-first.ensures.small c.from-number.ensures

pub loop-digit-preserved : goal.loop-digit-preserved
loop-digit-preserved c =
    digit_more c.loop-digit.number c.in-Some.digit c.from.result _ c.loop-digit.rest.now _ c.loop-digit.invariant c.in-Some.ensures.value
    (let none = c.if-number-eq0.false in omega (arith, none)) (let many = c.if-number-ge-MOST_FRONT.false in
    omega (arith, many)) c.in-Some.ensures.small c.from.ensures
