use Rattle.csn_grammar.proofs.MeantBits.{meant_bits, followed_bits}
use Rattle.csn_grammar.proofs.laws.meanings_are_bits.Goals as goal

pub returns-clause-meant : goal.returns-clause-meant
returns-clause-meant c = λ rules r x o env b t h. meant_bits rules r h

pub returns-clause-followed : goal.returns-clause-followed
returns-clause-followed c = λ rules r x o env b h. followed_bits rules r h
