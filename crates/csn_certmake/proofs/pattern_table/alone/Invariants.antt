use Rattle.std.proofs.Common.{[], ◌∷◌}
use Rattle.csn_good.specs.Patterns.{leaf_pattern}
use Rattle.csn_certmake.proofs.Rows.{RowSo}
use Rattle.csn_certmake.proofs.pattern_table.alone.Given as goal

abbrev pub invariant-loop-octet : goal.invariant-loop-octet
invariant-loop-octet l = RowSo (λ octet. leaf_pattern l.reading l.node octet ∷ []) l.row l.octet
