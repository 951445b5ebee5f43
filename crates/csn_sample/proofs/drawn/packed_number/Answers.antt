use Rattle.std.proofs.Common.{arith}
use Rattle.csn_sample.proofs.Draws.{below_next, number_next}
use Rattle.csn_sample.proofs.drawn.packed_number.Goals as goal

pub loop-at-preserved : goal.loop-at-preserved
loop-at-preserved c = (
  number_next c.args.bits.now c.loop-at.at c.loop-at.number c.from.result c.loop-at-test.true c.loop-at.invariant.0 c.from.ensures,
  below_next c.loop-at.number c.loop-at.at c.from.result c.loop-at.invariant.1 (omega (arith, c.from.ensures)),
)
