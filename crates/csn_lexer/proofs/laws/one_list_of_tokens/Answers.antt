use Rattle.csn_lexer.proofs.OneReading.{one_reading}
use Rattle.csn_lexer.proofs.laws.one_list_of_tokens.Goals as goal

pub returns : goal.returns
returns c = one_reading
