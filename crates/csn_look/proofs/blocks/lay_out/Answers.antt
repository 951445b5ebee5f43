use Rattle.std.proofs.Common.{arith}
use Rattle.csn_look.proofs.Tables.BlockFacts.{block_within, laid_more, laid_all}
use Rattle.csn_look.proofs.blocks.lay_out.Goals as goal

pub block_of-block-requires : goal.block_of-block-requires
block_of-block-requires c = block_within c.args.index.now c.args.blocks.now c.loop-at.at c.requires c.loop-at-test.true

pub loop-at-preserved : goal.loop-at-preserved
loop-at-preserved c =
    laid_more c.args.index.now c.args.blocks.now c.loop-at.marks.items c.extend_from_slice.new.self.items
    c.block_of-block.result c.loop-at.at c.loop-at-test.true
    c.loop-at.invariant c.block_of-block.ensures c.in_ok-extend_from_slice.ensures.items

pub returns : goal.returns
returns c = laid_all c.args.index.now c.args.blocks.now c.loop-at.marks.items c.loop-at.at (omega arith) c.loop-at.invariant
