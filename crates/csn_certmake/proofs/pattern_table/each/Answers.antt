use Rattle.std.proofs.Common.{ℕ, ◌++◌, ◌∷◌, [], ap, ◌∙◌, refl, arith}
use Rattle.csn_certmake.proofs.Rows.{row_one, row_all}
use Rattle.csn_certmake.proofs.pattern_table.each.Goals as goal

pub loop-octet-preserved : goal.loop-octet-preserved
loop-octet-preserved c =
    row_one (λ (octet : ℕ). c.args.pattern ∷ []) c.loop-octet.row c.push-in-loop-octet.new.self c.loop-octet.octet
    c.push.new.self.items c.args.pattern c.loop-octet.invariant
    (c.in_ok-push.ensures.items ∙ ap (λ l. l ++ c.args.pattern ∷ []) c.new-patterns.ensures.items)
    refl c.in_ok-push-2.ensures

pub returns : goal.returns
returns c = row_all (λ (octet : ℕ). c.args.pattern ∷ []) c.loop-octet.row c.loop-octet.octet
    (omega (arith, c.loop-octet-test.false, c.loop-octet.auto.octet-end)) c.loop-octet.invariant
