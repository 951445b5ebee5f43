use Rattle.csn_certmake.proofs.Behind.{BehindTo}
use Rattle.csn_certmake.proofs.joining.behind_each.Given as goal

abbrev pub invariant-loop-size : goal.invariant-loop-size
invariant-loop-size l = BehindTo l.first l.octet l.rests l.behind l.size
