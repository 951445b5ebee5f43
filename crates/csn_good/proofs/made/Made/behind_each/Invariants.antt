use Rattle.csn_good.proofs.Behind.{BehindTo}
use Rattle.csn_good.proofs.made.Made.behind_each.Given as goal

abbrev pub invariant-loop-size : goal.invariant-loop-size
invariant-loop-size l = BehindTo l.self.at.items l.octet l.behind.items l.size
