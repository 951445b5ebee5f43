use Rattle.csn_fields.proofs.OneList.{one_list_of_events}
use Rattle.csn_fields.proofs.laws.trees_have_one_list_of_events.Goals as goal

pub returns : goal.returns
returns c = one_list_of_events
