use Rattle.std.proofs.Common.{flat_map}
use Rattle.csn_certmake.specs.Patterns.{continued, patterns_in}
use Rattle.csn_certmake.proofs.Rows.{RowSo}
use Rattle.csn_certmake.proofs.pattern_table.before.Given as goal

abbrev pub invariant-loop-octet : goal.invariant-loop-octet
invariant-loop-octet l = RowSo (λ octet. flat_map (continued l.rests octet) (patterns_in l.part octet)) l.row l.octet
