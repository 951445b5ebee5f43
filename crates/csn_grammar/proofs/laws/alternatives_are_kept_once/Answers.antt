use Rattle.csn_grammar.proofs.VoidFacts.{kept_once}
use Rattle.csn_grammar.proofs.laws.alternatives_are_kept_once.Goals as goal

pub returns : goal.returns
returns c = λ rules r bs xs ys left right. kept_once rules r left right
