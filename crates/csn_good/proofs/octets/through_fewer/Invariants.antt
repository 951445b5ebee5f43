use Rattle.std.proofs.Common.{◌-◌}
use Rattle.csn_good.specs.ClaimedSets.{claims_of}
use Rattle.csn_good.proofs.EndsTold.{GoingFewer}
use Rattle.csn_good.proofs.octets.through_fewer.Given as goal

abbrev pub invariant-loop-turn : goal.invariant-loop-turn
invariant-loop-turn l = GoingFewer (claims_of l.c) l.i l.n (l.n - l.turn) l.fn.from.has l.here.has l.ends.has
