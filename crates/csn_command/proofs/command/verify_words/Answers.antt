use Rattle.std.proofs.Common.{sym, subst, ◌∙◌, ap, is_some, refl, arith, length}
use Rattle.std.proofs.lemmas.List.{length-map}
use Rattle.csn_command.specs.Command.{IsArgument}
use Rattle.csn_command.proofs.RuleRows.{front_of_verify, verify_row_of}
use Rattle.csn_command.proofs.Words.{if_none}
use Rattle.csn_command.proofs.command.verify_words.Goals as goal

pub returns-then-is_argument-clause-names : goal.returns-then-is_argument-clause-names
returns-then-is_argument-clause-names g c =
    verify_row_of g.W.AsStr.text c.in_ok-certificate.front.now c.in_ok-certificate.certificate.now
    c.in_ok-certificate.ensures.cases.0 c.as_str-certificate.ensures c.in_ok-rule.ensures.names
    (c.is_argument.ensures.0 c.if-is_argument.true)

pub returns-then-is_argument-clause-none : goal.returns-then-is_argument-clause-none
returns-then-is_argument-clause-none g c = λ file name reading certificate row. refl

pub returns-else-is_argument-clause-none : goal.returns-else-is_argument-clause-none
returns-else-is_argument-clause-none g c = λ file name reading certificate row.
    let front = front_of_verify g.W.AsStr.text c.in_ok-certificate.front.now c.in_ok-certificate.certificate.now c.in_ok-certificate.ensures.cases.0 row in
    sym c.if-is_argument.false ∙ c.is_argument.ensures.1 (subst IsArgument (front.1 ∙ sym c.as_str-certificate.ensures) row.certificate_fits)

pub returns-in_err-certificate-clause-none : goal.returns-in_err-certificate-clause-none
returns-in_err-certificate-clause-none g c = λ file name reading certificate row.
    absurd (omega (arith, c.in_err-certificate.ensures.cases, ap length row.words_are, length-map c.args.words.now g.W.AsStr.text))

pub returns-in_err-certificate-clause-names : goal.returns-in_err-certificate-clause-names
returns-in_err-certificate-clause-names g c = if_none c.from_residual.result _ c.from_residual.ensures

pub returns-in_err-rule-clause-none : goal.returns-in_err-rule-clause-none
returns-in_err-rule-clause-none g c = λ file name reading certificate row.
    ap is_some c.from_residual-in_err-rule.ensures
    ∙ c.in_err-rule.ensures.none file name reading
    (front_of_verify g.W.AsStr.text c.in_ok-certificate.front.now c.in_ok-certificate.certificate.now
    c.in_ok-certificate.ensures.cases.0 row).0

pub returns-in_err-rule-clause-names : goal.returns-in_err-rule-clause-names
returns-in_err-rule-clause-names g c = if_none c.from_residual-in_err-rule.result _ c.from_residual-in_err-rule.ensures
