use Rattle.csn_good.proofs.Holding.{unbroken, one_fault}
use Rattle.csn_good.proofs.laws.first_fault_is_one.Goals as goal

pub returns-clause-one : goal.returns-clause-one
returns-clause-one c = λ d certificate rule other_rule i other left right. one_fault d certificate rule other_rule i other left right

pub returns-clause-none : goal.returns-clause-none
returns-clause-none c = λ d certificate rule i good fault. unbroken d certificate good rule i fault.breaks
