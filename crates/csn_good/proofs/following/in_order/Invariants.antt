use Rattle.csn_good.specs.ClaimedSets.{claims_of}
use Rattle.csn_good.specs.Wanted.{ordered}
use Rattle.csn_good.proofs.FollowArms.{OrderHas}
use Rattle.csn_good.proofs.following.in_order.Given as goal

abbrev pub invariant-loop-at : goal.invariant-loop-at
invariant-loop-at l = OrderHas (claims_of l.c) l.k (ordered l.ends_early l.parts) l.parts l.at l.tail
