use Rattle.std.proofs.Common.{ℕ, [], ◌∷◌, sym, subst, IfOk}
use Rattle.csn_desc.specs.declared.node.Count.{Count}
use Rattle.csn_cert.specs.PatternV.{PatternV}
use Rattle.csn_certmake.specs.Patterns.{IsRow, turns_of, patterns_in}
use Rattle.csn_certmake.proofs.pattern_table.turns.Goals as goal

pub returns-in-Fixed : goal.returns-in-Fixed
returns-in-Fixed c =
    subst (λ (k : Count). IfOk c.times.result (λ row. IsRow (turns_of (patterns_in c.args.part.now) k) row))
    (sym c.in-Fixed.is) c.times.ensures

pub returns-in-Counted : goal.returns-in-Counted
returns-in-Counted c =
    subst (λ (k : Count). IfOk c.each.result (λ row. IsRow (turns_of (patterns_in c.args.part.now) k) row)) (sym c.in-Counted.is)
    (subst (λ (p : PatternV). IfOk c.each.result (λ row. IsRow (λ (octet : ℕ). p ∷ []) row)) c.new.ensures c.each.ensures)
