use Rattle.csn_good.specs.ClaimedSets.{claims_of}
use Rattle.csn_good.proofs.ReachArms.{OrderCarried}
use Rattle.csn_good.proofs.reaching.in_order.Given as goal

abbrev pub invariant-loop-at : goal.invariant-loop-at
invariant-loop-at l = OrderCarried (claims_of l.c) l.parts l.at l.fn.begins.has l.here.has
