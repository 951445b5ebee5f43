use Rattle.csn_desc.proofs.MeantBits.{meant_bits, followed_bits}
use Rattle.csn_desc.proofs.laws.meanings_are_bits.Goals as goal

pub returns-clause-meant : goal.returns-clause-meant
returns-clause-meant c = λ d i o v b t h. meant_bits d h

pub returns-clause-followed : goal.returns-clause-followed
returns-clause-followed c = λ d i o v b h. followed_bits d h
