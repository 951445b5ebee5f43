use Rattle.csn_good.proofs.Making.{only_it}
use Rattle.csn_good.proofs.pattern_set.PatternSet.nothing.Goals as goal

pub returns : goal.returns
returns c = λ p. only_it c.add.new.self (c.in_ok-add.ensures p) c.new-patterns.ensures c.new-empty.ensures
