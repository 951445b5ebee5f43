use Rattle.csn_grammar.specs.Follow.{follows_whole}
use Rattle.csn_grammar.proofs.Prefixes.{rule_followed}
use Rattle.csn_grammar.proofs.laws.strings_are_followed.Goals as goal

pub returns-clause-expression : goal.returns-clause-expression
returns-clause-expression c = λ rules r x o env b t h. follows_whole t h

pub returns-clause-block : goal.returns-clause-block
returns-clause-block c = λ rules r n b t h. (h.0, h.1, rule_followed rules r h.2)
