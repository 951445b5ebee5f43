use Rattle.csn_compat.proofs.Taken.{blocks_taken}
use Rattle.csn_compat.proofs.laws.blocks_are_taken.Goals as goal

pub returns : goal.returns
returns c = blocks_taken
