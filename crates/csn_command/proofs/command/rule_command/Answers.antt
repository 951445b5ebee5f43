use Rattle.std.proofs.Common.{ℕ, List, ◌∙◌, ap, arith, inl, inr, is_some, map, refl, subst, sym, true≢false}
use Rattle.std.proofs.lemmas.List.{length-map}
use Rattle.csn_command.specs.Command.{AreRuleWords, rule_row}
use Rattle.csn_command.proofs.RuleRows.{by_first, four_words}
use Rattle.csn_command.proofs.Words.{if_none, some_of_none}
use Rattle.csn_command.proofs.command.rule_command.Goals as goal

pub returns-in-Some : goal.returns-in-Some
returns-in-Some g c =
    let named = subst (λ (w : List ℕ). AreRuleWords w (map g.W.AsStr.text c.args.words.now) c.in_ok-rule.rule)
    c.in-Some.ensures.named c.in_ok-rule.ensures.names in
    record { row = λ _. rule_row _ _ _ (inl (c.in-Some.report, named)); none = λ file name reading over. refl; names = named }

pub returns-in_err-first : goal.returns-in_err-first
returns-in_err-first g c = record {
  row = λ some. absurd (some_of_none c.from_residual.result c.from_residual.ensures some);
  none = λ file name reading over. absurd (omega (arith, c.in_err-first.ensures.cases, four_words over, length-map c.args.words.now g.W.AsStr.text));
  names = if_none c.from_residual.result _ c.from_residual.ensures;
}

pub returns-in_err-rule : goal.returns-in_err-rule
returns-in_err-rule g c = record {
  row = λ some. absurd (some_of_none c.from_residual-in_err-rule.result c.from_residual-in_err-rule.ensures some);
  none = λ file name reading over.
      let first = by_first g.W.AsStr.text c.in_ok-first.ensures.cases.0 c.as_str-word.ensures over in
      ap is_some c.from_residual-in_err-rule.ensures ∙ c.in_err-rule.ensures.none file name reading first.0;
  names = if_none c.from_residual-in_err-rule.result _ c.from_residual-in_err-rule.ensures;
}

pub returns-in_err-command : goal.returns-in_err-command
returns-in_err-command g c = record {
  row = λ some. absurd (some_of_none c.from_residual-in_err-command.result c.from_residual-in_err-command.ensures some);
  none = λ file name reading over.
      let first = by_first g.W.AsStr.text c.in_ok-first.ensures.cases.0 c.as_str-word.ensures over in
      elim first.1 [
        | inl report ↦ absurd (true≢false (sym (c.in_default.ensures.none report.0 report.1)))
        | inr command ↦ ap is_some c.from_residual-in_err-command.ensures ∙ c.in_err-command.ensures.none command.0 command.1
      ];
  names = if_none c.from_residual-in_err-command.result _ c.from_residual-in_err-command.ensures;
}

pub returns : goal.returns
returns g c =
    let named = subst (λ (w : List ℕ). AreRuleWords w (map g.W.AsStr.text c.args.words.now) c.in_ok-rule.rule)
    c.in_ok-command.ensures.named c.in_ok-rule.ensures.names in
    record { row = λ _. rule_row _ _ _ (inr (c.in_ok-command.command, named)); none = λ file name reading over. refl; names = named }
