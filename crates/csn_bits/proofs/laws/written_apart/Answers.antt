use Rattle.csn_bits.proofs.ReadBack as back
use Rattle.csn_bits.proofs.laws.written_apart.Goals as goal

pub returns : goal.returns
returns c = back.written_apart
