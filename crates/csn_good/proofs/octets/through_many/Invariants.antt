use Rattle.csn_good.specs.ClaimedSets.{claims_of}
use Rattle.csn_good.proofs.EndsTold.{unset, Growing}
use Rattle.csn_good.proofs.octets.through_many.Given as goal

abbrev pub decreases-loop-end : goal.decreases-loop-end
decreases-loop-end l = unset l.ends.has

abbrev pub invariant-loop-end : goal.invariant-loop-end
invariant-loop-end l = Growing (claims_of l.c) l.i l.fn.from.has l.ends.has
