use Rattle.csn_sample.proofs.Draws.{spelled-next}
use Rattle.csn_sample.proofs.drawn.Drawn.literal.Goals as goal

pub loop-at-preserved : goal.loop-at-preserved
loop-at-preserved c =
    spelled-next c.args.run.now c.args.self.now.bits.items c.loop-at.self.bits.items c.push.new.self.bits.items c.loop-at.at
    c.bit_of-bit.result c.get.result.now c.get.ensures c.loop-at.invariant c.bit_of-bit.ensures.value c.in_ok-push.ensures.added
