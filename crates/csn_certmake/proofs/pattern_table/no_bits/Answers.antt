use Rattle.std.proofs.Common.{ℕ, [], ◌∷◌, subst, IfOk}
use Rattle.csn_cert.specs.PatternV.{PatternV}
use Rattle.csn_certmake.specs.Patterns.{IsRow}
use Rattle.csn_certmake.proofs.pattern_table.no_bits.Goals as goal

pub returns : goal.returns
returns c = subst (λ (p : PatternV). IfOk c.each.result (λ row. IsRow (λ (octet : ℕ). p ∷ []) row)) c.new.ensures c.each.ensures
