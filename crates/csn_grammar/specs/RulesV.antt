-- The rules of a description, as contracts see them.
use Rattle.std.specs.Prelude.{ℕ, List, refl}
use Rattle.std.specs.Coded.{Coded, code_by, coded×, coded_ℕ, coded_list}
use Rattle.csn_grammar.specs.declared.rules.Rule.{Rule}
use Rattle.csn_grammar.specs.ExprV.{ExprV}
use Rattle.csn_grammar.specs.ExprCode.{expr_code}

-- a rule has a name, the place of its `<` and that behind its `;`, and an expression
abbrev pub RulesV : Type 0
RulesV = List Rule

abbrev pub rule_code : Coded Rule
rule_code =
    code_by
    (List ℕ × (ℕ × (ℕ × ExprV)))
    (coded× (coded_list coded_ℕ) (coded× coded_ℕ (coded× coded_ℕ expr_code)))
    (λ r. (r.name, (r.span.start, (r.span.end, r.body))))
    (λ p. record { name = p.0; span = record { start = p.1.0; end = p.1.1.0 }; body = p.1.1.1 })
    (λ _. refl)

abbrev pub rules_code : Coded RulesV
rules_code = coded_list rule_code
