use Rattle.csn_segment.proofs.Short as short
use Rattle.csn_segment.proofs.laws.messages_are_short.Goals as goal

pub returns : goal.returns
returns c = short.messages_are_short
