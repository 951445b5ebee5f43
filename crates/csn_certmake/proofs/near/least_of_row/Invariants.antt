use Rattle.std.proofs.Common.{ℕ, ◌≤◌, ◌<◌}
use Rattle.csn_certmake.specs.Patterns.{patterns_in}
use Rattle.csn_certmake.specs.Near.{HaveMarks}
use Rattle.csn_certmake.proofs.near.least_of_row.Given as goal

abbrev pub invariant-loop-octet : goal.invariant-loop-octet
invariant-loop-octet l = (l.least ≤ 12) × ((octet : ℕ) → octet < l.octet → HaveMarks l.least (patterns_in l.row octet))
