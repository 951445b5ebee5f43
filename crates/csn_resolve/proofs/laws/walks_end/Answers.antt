use Rattle.csn_resolve.proofs.Emptiness.VoidDecided.{void_decided}
use Rattle.csn_resolve.proofs.Emptiness.NarrowDecided.{narrow_decided}
use Rattle.csn_resolve.proofs.Walking.Total.{has_walk, has_refusals}
use Rattle.csn_resolve.proofs.laws.walks_end.Goals as goal

pub returns-clause-empty : goal.returns-clause-empty
returns-clause-empty c = λ rules r. void_decided rules r

pub returns-clause-widths : goal.returns-clause-widths
returns-clause-widths c = λ rules r. narrow_decided rules r

pub returns-clause-walk : goal.returns-clause-walk
returns-clause-walk c = λ rules r a x. has_walk rules r a x

pub returns-clause-list : goal.returns-clause-list
returns-clause-list c = λ rules r n. has_refusals rules r n
