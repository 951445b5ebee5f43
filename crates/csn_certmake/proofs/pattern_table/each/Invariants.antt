use Rattle.std.proofs.Common.{ℕ, [], ◌∷◌}
use Rattle.csn_certmake.proofs.Rows.{RowSo}
use Rattle.csn_certmake.proofs.pattern_table.each.Given as goal

abbrev pub invariant-loop-octet : goal.invariant-loop-octet
invariant-loop-octet l = RowSo (λ (octet : ℕ). l.pattern ∷ []) l.row l.octet
