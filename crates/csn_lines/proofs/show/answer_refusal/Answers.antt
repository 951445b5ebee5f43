use Rattle.std.proofs.Common.{◌∙◌, [], append-nil, codes, sym}
use Rattle.std.specs.Fmt.{decimal}
use Rattle.csn_plan.proofs.Texts.{grown, on_ok_none}
use Rattle.csn_lines.proofs.AnswerLemmas.{not_put}
use Rattle.csn_lines.proofs.ProgressLemmas.{OnErr-from}
use Rattle.csn_lines.proofs.show.answer_refusal.Goals as goal

pub returns-in_err-extend_from_slice-clause-ok : goal.returns-in_err-extend_from_slice-clause-ok
returns-in_err-extend_from_slice-clause-ok c = on_ok_none c.from_residual.result _ c.from_residual.ensures.0

pub returns-in_err-extend_from_slice-clause-err : goal.returns-in_err-extend_from_slice-clause-err
returns-in_err-extend_from_slice-clause-err c = OnErr-from c.from_residual.result ([], c.in_err-extend_from_slice.ensures.items ∙ sym (append-nil _))

pub returns-in_err-push_number-clause-ok : goal.returns-in_err-push_number-clause-ok
returns-in_err-push_number-clause-ok c = on_ok_none c.from_residual-in_err-push_number.result _ c.from_residual-in_err-push_number.ensures.0

pub returns-in_err-push_number-clause-err : goal.returns-in_err-push_number-clause-err
returns-in_err-push_number-clause-err c = OnErr-from c.from_residual-in_err-push_number.result
    (codes "no ", c.in_err-push_number.ensures.err ∙ c.in_ok-extend_from_slice.ensures.items)

pub returns-then-place-bits-clause-err : goal.returns-then-place-bits-clause-err
returns-then-place-bits-clause-err c =
    not_put c.extend_from_slice-then-place-bits.result _ _ _ _ c.extend_from_slice-then-place-bits.ensures.items
    (λ same. grown _ _ _ (codes "no ") (decimal c.args.place) c.in_ok-extend_from_slice.ensures.items
    (same ∙ c.in_ok-push_number.ensures.ok))

pub returns-else-place-bits-clause-err : goal.returns-else-place-bits-clause-err
returns-else-place-bits-clause-err c =
    not_put c.extend_from_slice-else-place-bits.result _ _ _ _ c.extend_from_slice-else-place-bits.ensures.items
    (λ same. grown _ _ _ (codes "no ") (decimal c.args.place) c.in_ok-extend_from_slice.ensures.items
    (same ∙ c.in_ok-push_number.ensures.ok))
