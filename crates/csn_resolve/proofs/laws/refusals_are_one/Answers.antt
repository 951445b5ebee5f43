use Rattle.csn_resolve.proofs.Walking.Walked.{walk_once, refusals_once, refused_once, not_both}
use Rattle.csn_resolve.proofs.laws.refusals_are_one.Goals as goal

pub returns-clause-walk : goal.returns-clause-walk
returns-clause-walk c = λ rules r a x steps others h g. walk_once rules r h g

pub returns-clause-list : goal.returns-clause-list
returns-clause-list c = λ rules r n refusals others h g. refusals_once rules r h g

pub returns-clause-first : goal.returns-clause-first
returns-clause-first c = λ rules r n why other_why place other_place h g. refused_once rules r h g

pub returns-clause-or_resolved : goal.returns-clause-or_resolved
returns-clause-or_resolved c = λ rules r n why place d h g. not_both rules r h g
