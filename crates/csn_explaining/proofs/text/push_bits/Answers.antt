use Rattle.std.proofs.Common.{arith, ◌∙◌, ap, ◌++◌}
use Rattle.csn_explaining.proofs.Digits.{all_digits, more_digits}
use Rattle.csn_explaining.proofs.text.push_bits.Goals as goal

pub loop-at-preserved : goal.loop-at-preserved
loop-at-preserved c = (
  more_digits c.args.out.now.items c.loop-at.out.items _ c.args.block.now c.args.place c.loop-at.at _
      c.loop-at.invariant.1 c.loop-at.invariant.0 c.in_ok-at.ensures.digits,
  omega (arith, c.loop-at.invariant.1),
  λ h. omega (arith, c.in_ok-at.ensures.within),
)

pub returns : goal.returns
returns c = c.loop-at.invariant.0 ∙ ap (λ l. c.args.out.now.items ++ l) (all_digits c.args.block.now c.args.place c.args.bits c.loop-at.at
    c.min-end.result c.loop-at.invariant.1 (omega arith) c.loop-at.invariant.2 (λ h. omega arith) (λ h. omega arith))
