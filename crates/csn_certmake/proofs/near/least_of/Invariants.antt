use Rattle.std.proofs.Common.{◌≤◌, take}
use Rattle.csn_certmake.specs.Near.{HaveMarks}
use Rattle.csn_certmake.proofs.near.least_of.Given as goal

abbrev pub invariant-loop-pattern : goal.invariant-loop-pattern
invariant-loop-pattern l = (l.least ≤ l.fn.most) × HaveMarks l.least (take l.pattern-index l.patterns)
