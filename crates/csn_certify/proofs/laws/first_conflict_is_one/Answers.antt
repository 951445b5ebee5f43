use Rattle.csn_certify.specs.Conflicts.{rank_of}
use Rattle.csn_certify.proofs.Ranks.{NotAfter-both, rank_of-one}
use Rattle.csn_certify.proofs.laws.first_conflict_is_one.Goals as goal

pub returns-clause-one : goal.returns-clause-one
returns-clause-one c = λ d most x y hx hy. rank_of-one x y (NotAfter-both (rank_of x) (rank_of y) (hx.first y hy.holds) (hy.first x hx.holds))

pub returns-clause-not_certified : goal.returns-clause-not_certified
returns-clause-not_certified c = λ d most x hx certified. certified x hx.holds
