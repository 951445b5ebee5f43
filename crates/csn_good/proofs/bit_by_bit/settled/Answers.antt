use Rattle.std.proofs.Common.{refl, arith}
use Rattle.csn_good.proofs.ListsMeeting.{short_left, short_right}
use Rattle.csn_good.proofs.bit_by_bit.settled.Goals as goal

pub returns-then-has_short-clause-some : goal.returns-then-has_short-clause-some
returns-then-has_short-clause-some c = (
  (λ h. short_left c.args.left.now c.args.right.now c.args.at (λ none. let some = c.if-right-eq0.false in
      absurd (omega arith)) (c.has_short.ensures.short.0 c.if-has_short.true)),
  (λ h. refl),
)

pub returns-then-has_short-2-clause-some : goal.returns-then-has_short-2-clause-some
returns-then-has_short-2-clause-some c = (
  (λ h. short_right c.args.left.now c.args.right.now c.args.at (λ none. let some = c.if-left-eq0.false in
      absurd (omega arith)) (c.has_short-2.ensures.short.0 c.if-has_short-2.true)),
  (λ h. refl),
)
