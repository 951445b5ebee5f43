use Rattle.std.proofs.Common.{◌+◌, ◌-◌, ◌*◌, drop, ◌∙◌, ap, arith}
use Rattle.csn_good.specs.Numbers.{marks_number}
use Rattle.csn_good.proofs.Numbered.{number_small, number_more, digit_small}
use Rattle.csn_good.proofs.pattern_set.number_of.Goals as goal

pub overflow_add-number : goal.overflow_add-number
overflow_add-number c =
    let digit = digit_small c.get.result in
    let told = c.digit_of.ensures in
    omega arith

pub loop-at-preserved : goal.loop-at-preserved
loop-at-preserved c =
    let next =
    ap (λ n. 3 * n + c.digit_of.result) c.loop-at.invariant.0
    ∙ ap (λ n. 3 * marks_number (drop c.loop-at.at c.args.pattern.marks) + n) c.digit_of.ensures
    ∙ number_more c.args.pattern.marks c.loop-at.at c.get.result c.loop-at-test.true c.get.ensures
    in
    (next, number_small c.args.pattern.marks (c.loop-at.at - 1) _ (omega (arith, c.len-at.ensures.count, c.len-at.ensures.few)) next)
