use Rattle.csn_look.proofs.Basics.Octets.{Folds}
use Rattle.csn_look.proofs.octet_set.OctetSet.times.Given as goal

abbrev pub invariant-loop-left : goal.invariant-loop-left
invariant-loop-left l = Folds l.fn.self l.n l.left l.sums l.each

abbrev pub decreases-loop-left : goal.decreases-loop-left
decreases-loop-left l = l.left
