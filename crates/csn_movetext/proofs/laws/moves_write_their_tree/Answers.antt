use Rattle.std.proofs.Common.{refl}
use Rattle.csn_movetext.proofs.Written.{walk_writes, block_writes}
use Rattle.csn_movetext.proofs.laws.moves_write_their_tree.Goals as goal

pub returns-clause-node : goal.returns-clause-node
returns-clause-node c = λ form d openings i o at v b t moves mark rest around text left are g h opens. walk_writes
    c.texts_are_joined.ensures form d openings c.meanings_are_bits.ensures.meant are mark opens g h refl rest around
    text left

pub returns-clause-block : goal.returns-clause-block
returns-clause-block c = λ form d openings o at v b t moves text left are g h. block_writes c.texts_are_joined.ensures
    form d openings c.meanings_are_bits.ensures.meant are text left g h
