use Rattle.std.proofs.Common.{[]}
use Rattle.csn_grammar.proofs.Empties.{empty_followed, empty_rule_followed, nothing_seen}
use Rattle.csn_grammar.proofs.laws.empty_bits_are_followed.Goals as goal

pub returns-clause-expression : goal.returns-clause-expression
returns-clause-expression c = λ rules r seen x o env h values. empty_followed rules r o env values h

pub returns-clause-block : goal.returns-clause-block
returns-clause-block c = λ rules r n rule at h. (rule, at, empty_rule_followed rules r 0 [] nothing_seen h)
