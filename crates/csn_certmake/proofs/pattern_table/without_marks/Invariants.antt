use Rattle.std.proofs.Common.{map}
use Rattle.csn_certmake.specs.Behind.{cut_to}
use Rattle.csn_certmake.specs.Patterns.{patterns_in}
use Rattle.csn_certmake.proofs.Rows.{RowSo}
use Rattle.csn_certmake.proofs.pattern_table.without_marks.Given as goal

abbrev pub invariant-loop-octet : goal.invariant-loop-octet
invariant-loop-octet l = RowSo (λ octet. map (cut_to 0) (patterns_in l.fn.row octet)) l.cut l.octet
