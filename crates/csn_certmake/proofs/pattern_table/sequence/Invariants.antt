use Rattle.csn_certmake.specs.Patterns.{patterns_at}
use Rattle.csn_certmake.proofs.NearParts.{IsNearer}
use Rattle.csn_certmake.proofs.pattern_table.sequence.Given as goal

abbrev pub invariant-loop-at : goal.invariant-loop-at
invariant-loop-at l = IsNearer (patterns_at l.rows) l.parts l.at l.row
