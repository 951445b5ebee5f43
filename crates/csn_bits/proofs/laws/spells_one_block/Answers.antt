use Rattle.csn_bits.proofs.ReadBack as back
use Rattle.csn_bits.proofs.laws.spells_one_block.Goals as goal

pub returns : goal.returns
returns c = back.spells_one_block
