use Rattle.csn_certmake.specs.Patterns.{choice_of, patterns_at}
use Rattle.csn_certmake.proofs.Rows.{RowSo}
use Rattle.csn_certmake.proofs.pattern_table.choice.Given as goal

abbrev pub invariant-loop-octet : goal.invariant-loop-octet
invariant-loop-octet l = RowSo (choice_of (patterns_at l.rows) l.parts) l.row l.octet
