use Rattle.std.proofs.Common.{◌≡◌, take}
use Rattle.csn_certmake.specs.Patterns.{choice_of, patterns_at}
use Rattle.csn_certmake.proofs.pattern_table.gathered.Given as goal

abbrev pub invariant-loop-at : goal.invariant-loop-at
invariant-loop-at l = l.patterns.items ≡ choice_of (patterns_at l.rows) (take l.at l.parts) l.octet
