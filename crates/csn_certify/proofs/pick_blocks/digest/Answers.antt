use Rattle.std.proofs.Common.{arith}
use Rattle.csn_certify.proofs.PickBlocks.{digest_more, digest_all}
use Rattle.csn_certify.proofs.pick_blocks.digest.Goals as goal

pub loop-at-preserved : goal.loop-at-preserved
loop-at-preserved c = digest_more c.args.entries.now c.loop-at.digest c.loop-at.at c.number.result _ c.loop-at-test.true c.number.ensures c.loop-at.invariant

pub returns : goal.returns
returns c = digest_all c.args.entries.now c.loop-at.digest c.loop-at.at (omega (arith, c.loop-at-test.false)) c.loop-at.invariant
