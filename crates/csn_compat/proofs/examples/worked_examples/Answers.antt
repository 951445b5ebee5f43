use Rattle.csn_compat.proofs.ExampleFacts.{later_message_takes_message, counts_go_by_pairs}
use Rattle.csn_compat.proofs.examples.worked_examples.Goals as goal

pub returns-clause-message : goal.returns-clause-message
returns-clause-message c = later_message_takes_message

pub returns-clause-counted : goal.returns-clause-counted
returns-clause-counted c = counts_go_by_pairs
