use Rattle.csn_bits.proofs.Decided as decided
use Rattle.csn_bits.proofs.laws.fault_or_block.Goals as goal

pub returns : goal.returns
returns c = decided.fault_or_block
