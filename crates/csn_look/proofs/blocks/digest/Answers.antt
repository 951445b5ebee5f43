use Rattle.std.proofs.Common.{arith}
use Rattle.csn_look.proofs.Tables.BlockFacts.{digest_more, digest_all}
use Rattle.csn_look.proofs.blocks.digest.Goals as goal

pub loop-at-preserved : goal.loop-at-preserved
loop-at-preserved c =
    digest_more c.args.table.now c.loop-at.digest c.loop-at.at c.word.result
    (omega (arith, c.requires, c.loop-at-test.true)) c.word.ensures c.loop-at.invariant

pub returns : goal.returns
returns c = digest_all c.args.table.now c.loop-at.digest c.loop-at.at (omega (arith, c.requires, c.loop-at-test.false)) c.loop-at.invariant
