use Rattle.std.proofs.Common.{[], ap, ◌++◌}
use Rattle.csn_cert.proofs.Words.{patterns_differ}
use Rattle.csn_cert.proofs.laws.texts_are_of_one_pattern.Goals as goal

pub returns : goal.returns
returns c = λ p q same. (patterns_differ p q [] [] (ap (λ l. l ++ []) same)).0
