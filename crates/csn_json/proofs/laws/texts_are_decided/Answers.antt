use Rattle.csn_json.proofs.Decided.{texts_decided}
use Rattle.csn_json.proofs.laws.texts_are_decided.Goals as goal

pub returns : goal.returns
returns c = texts_decided c.written_is_read.ensures c.fault_or_block.ensures
