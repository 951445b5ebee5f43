use Rattle.csn_lexer.proofs.NextStands.{something_next}
use Rattle.csn_lexer.proofs.OneReading.{one_next}
use Rattle.csn_lexer.proofs.laws.one_thing_is_next.Goals as goal

pub returns-clause-some : goal.returns-clause-some
returns-clause-some c = something_next

pub returns-clause-one : goal.returns-clause-one
returns-clause-one c = one_next
