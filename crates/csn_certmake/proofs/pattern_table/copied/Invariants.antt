use Rattle.csn_certmake.specs.Patterns.{patterns_in}
use Rattle.csn_certmake.proofs.Rows.{RowSo}
use Rattle.csn_certmake.proofs.pattern_table.copied.Given as goal

abbrev pub invariant-loop-octet : goal.invariant-loop-octet
invariant-loop-octet l = RowSo (patterns_in l.part) l.row l.octet
