use Rattle.csn_look.proofs.Tables.MarksHalved.{IsHalved}
use Rattle.csn_look.proofs.marks.halved.Given as goal

-- the marks below the place are made
abbrev pub invariant-loop-at : goal.invariant-loop-at
invariant-loop-at l = IsHalved l.marks l.at l.half
