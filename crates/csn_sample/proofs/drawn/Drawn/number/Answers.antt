use Rattle.std.proofs.Common.{◌-◌, arith, refl}
use Rattle.csn_sample.proofs.Draws.{number_drawn}
use Rattle.csn_sample.proofs.drawn.Drawn.number.Goals as goal

pub loop-at-preserved : goal.loop-at-preserved
loop-at-preserved c = (
  number_drawn c.args.self.now.bits.items c.loop-at.self.bits.items c.push.new.self.bits.items c.match-fill.number c.min-width.result
      c.loop-at.at (c.loop-at.at - 1) _ (omega (arith, c.loop-at-test.true)) c.loop-at.invariant.1 c.loop-at.invariant.0 refl
      c.in_ok-push.ensures.added,
  omega (arith, c.loop-at.invariant.1),
  c.loop-at.invariant.2,
)
