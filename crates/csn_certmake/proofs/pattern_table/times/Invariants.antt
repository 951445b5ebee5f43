use Rattle.csn_certmake.specs.Patterns.{IsRow, times_of, patterns_in}
use Rattle.csn_certmake.proofs.pattern_table.times.Given as goal

abbrev pub invariant-loop-k : goal.invariant-loop-k
invariant-loop-k l = IsRow (times_of (patterns_in l.part) l.k) l.row
