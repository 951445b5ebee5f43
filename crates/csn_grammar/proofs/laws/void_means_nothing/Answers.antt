use Rattle.csn_grammar.proofs.VoidFacts.{means_full, follows_full}
use Rattle.csn_grammar.proofs.laws.void_means_nothing.Goals as goal

pub returns-clause-meant : goal.returns-clause-meant
returns-clause-meant c = λ rules r x o env b t void h. means_full rules r h void

pub returns-clause-followed : goal.returns-clause-followed
returns-clause-followed c = λ rules r x o env b void h. follows_full rules r h void
