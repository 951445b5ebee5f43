use Rattle.std.proofs.Common.{◌≤◌}
use Rattle.csn_certmake.specs.Patterns.{patterns_at}
use Rattle.csn_certmake.specs.Near.{IsFar}
use Rattle.csn_certmake.proofs.pattern_table.far.Given as goal

abbrev pub invariant-loop-at : goal.invariant-loop-at
invariant-loop-at l = (l.from ≤ l.at) × IsFar (patterns_at l.rows) l.parts l.at l.row
