use Rattle.csn_certify.proofs.ShorterWords.{conflict_cut}
use Rattle.csn_certify.proofs.laws.longer_words_certify.Goals as goal

pub returns : goal.returns
returns c = λ d short long less certified x h. let found = conflict_cut d short long less h in certified found.0 found.1
