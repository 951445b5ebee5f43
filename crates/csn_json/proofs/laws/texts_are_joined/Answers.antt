use Rattle.csn_json.proofs.Joined.{texts_joined}
use Rattle.csn_json.proofs.laws.texts_are_joined.Goals as goal

pub returns : goal.returns
returns c = texts_joined
