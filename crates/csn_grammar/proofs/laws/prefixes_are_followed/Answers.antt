use Rattle.std.proofs.Common.{refl}
use Rattle.csn_grammar.proofs.Prefixes.{prefix_followed, rule_prefix}
use Rattle.csn_grammar.proofs.laws.prefixes_are_followed.Goals as goal

pub returns-clause-expression : goal.returns-clause-expression
returns-clause-expression c = λ rules r x o env b rest h. prefix_followed rules r h b rest refl

pub returns-clause-block : goal.returns-clause-block
returns-clause-block c = λ rules r n b rest h. (h.0, h.1, rule_prefix rules r h.2 b rest refl)
