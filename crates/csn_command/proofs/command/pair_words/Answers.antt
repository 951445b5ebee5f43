use Rattle.std.proofs.Common.{rules, sym, subst, ◌≡◌, ◌∙◌, ap, codes, IsTrue, is_some, refl, arith, length}
use Rattle.std.proofs.lemmas.List.{length-map}
use Rattle.csn_command.specs.Command.{IsArgument}
use Rattle.csn_command.proofs.RuleRows.{behind_compat, compat_row_of}
use Rattle.csn_command.proofs.Words.{if_none}
use Rattle.csn_command.proofs.command.pair_words.Goals.{else-eq-via-then-eq+else-is_argument, else-eq-via-else-eq}
use Rattle.csn_command.proofs.command.pair_words.Goals as goal

pub returns-then-is_argument-clause-names : goal.returns-then-is_argument-clause-names
returns-then-is_argument-clause-names g c =
    let first : g.W.AsStr.text c.in_ok-first.first.now ≡ codes "compat" = search rules in
    compat_row_of g.W.AsStr.text c.in_ok-first.ensures.cases.0 first c.in_ok-rule.ensures.names (c.is_argument.ensures.0 c.if-is_argument.true)

pub returns-then-is_argument-clause-none : goal.returns-then-is_argument-clause-none
returns-then-is_argument-clause-none g c = λ before after name reading row. refl

pub returns-else-eq-clause-none : goal.returns-else-eq-clause-none
returns-else-eq-clause-none g c = λ before after name reading row.
    let behind = behind_compat g.W.AsStr.text c.in_ok-first.ensures.cases.0 c.in_ok-before.ensures.cases.0 c.as_str-before.ensures row in
    elim c.else-eq.branch [
      | else-eq-via-then-eq+else-is_argument w ↦ sym w.if-is_argument.false ∙ w.is_argument.ensures.1 (subst IsArgument (sym behind.1) row.before_fits)
      | else-eq-via-else-eq w ↦
          let first : g.W.AsStr.text c.in_ok-first.first.now ≡ codes "compat" = behind.0 in
          let yes : IsTrue c.eq.result = search rules in
          sym w.if-eq.false ∙ yes
    ]

pub returns-in_err-first : goal.returns-in_err-first
returns-in_err-first g c = record {
  names = if_none c.from_residual.result _ c.from_residual.ensures;
  none = λ before after name reading row. absurd
      (omega (
        arith,
        c.in_err-first.ensures.cases,
        ap length row.words_are,
        length-map c.args.words.now
            g.W.AsStr.text,
      ));
}

pub returns-in_err-before : goal.returns-in_err-before
returns-in_err-before g c = record {
  names = if_none c.from_residual-in_err-before.result _ c.from_residual-in_err-before.ensures;
  none = λ before after name reading row.
      absurd (omega (
        arith,
        c.in_err-before.ensures.cases,
        c.in_ok-first.ensures.cases.1,
        ap length row.words_are,
        length-map c.args.words.now g.W.AsStr.text,
      ));
}

pub returns-in_err-rule : goal.returns-in_err-rule
returns-in_err-rule g c = record {
  names = if_none c.from_residual-in_err-rule.result _ c.from_residual-in_err-rule.ensures;
  none = λ before after name reading row.
      let behind = behind_compat g.W.AsStr.text c.in_ok-first.ensures.cases.0 c.in_ok-before.ensures.cases.0 c.as_str-before.ensures row in
      ap is_some c.from_residual-in_err-rule.ensures ∙ c.in_err-rule.ensures.none after name reading behind.2;
}
