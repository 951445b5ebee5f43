use Rattle.csn_certmake.specs.Patterns.{patterns_at}
use Rattle.csn_certmake.specs.Near.{HaveTogether}
use Rattle.csn_certmake.proofs.near.near_parts.Given as goal

abbrev pub invariant-loop-at : goal.invariant-loop-at
invariant-loop-at l = HaveTogether (patterns_at l.rows) l.parts l.at l.marks
