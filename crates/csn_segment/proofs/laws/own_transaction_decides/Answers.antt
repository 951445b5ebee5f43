use Rattle.csn_segment.proofs.Own as own
use Rattle.csn_segment.proofs.laws.own_transaction_decides.Goals as goal

pub returns : goal.returns
returns c = own.own_transaction_decides
