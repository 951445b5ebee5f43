use Rattle.csn_json.proofs.Texts.{not_refused}
use Rattle.csn_json.proofs.laws.trees_are_not_refused.Goals as goal

pub returns : goal.returns
returns c = not_refused
