use Rattle.csn_json.proofs.WrittenShown.{written_shown}
use Rattle.csn_json.proofs.laws.written_is_shown.Goals as goal

pub returns : goal.returns
returns c = written_shown
