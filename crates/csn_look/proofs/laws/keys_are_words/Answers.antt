use Rattle.csn_look.proofs.Tables.KeyWords.{key_at_most}
use Rattle.csn_look.proofs.laws.keys_are_words.Goals as goal

pub returns-clause-bits : goal.returns-clause-bits
returns-clause-bits c = λ d most i o word mark h. (key_at_most d most h).bits

pub returns-clause-short : goal.returns-clause-short
returns-clause-short c = λ d most i o word mark h. (key_at_most d most h).short
