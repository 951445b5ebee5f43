use Rattle.std.proofs.Common.{refl}
use Rattle.csn_encode.proofs.OneBits.{one_bits}
use Rattle.csn_encode.proofs.laws.both_ways.Goals as goal

pub returns-clause-trees : goal.returns-clause-trees
returns-clause-trees c = λ d t u b is certified block read. c.blocks_have_one_tree.ensures d 12 b u t is certified read block.means

pub returns-clause-blocks : goal.returns-clause-blocks
returns-clause-blocks c = λ d t b c read block. one_bits d block.means read refl refl refl refl
