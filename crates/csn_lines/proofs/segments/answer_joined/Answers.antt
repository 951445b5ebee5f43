use Rattle.std.proofs.Common.{◌≡◌, ◌∙◌, [], append-nil, codes, sym, subst, arith}
use Rattle.std.proofs.lemmas.List.{take_all}
use Rattle.std.proofs.lemmas.Result.{IfOk-weaker, IfOk-from_err}
use Rattle.csn_bits.specs.Octets.{bits_of_octets}
use Rattle.csn_bits.proofs.Packing.{length-bits_of_octets}
use Rattle.csn_json.specs.declared.form.TreeForm.TheVariants.{Text}
use Rattle.csn_lines.specs.Language.{of_plan}
use Rattle.csn_lines.specs.OutLine.{ShowsBlock}
use Rattle.csn_lines.proofs.ProgressLemmas.{OnErr-from}
use Rattle.csn_lines.proofs.segments.answer_joined.Goals as goal

pub returns-in-Ok-clause-ok : goal.returns-in-Ok-clause-ok
returns-in-Ok-clause-ok c =
    let octets = c.in-Whole.message.items in
    let all : c.in-Ok.bits ≡ bits_of_octets octets =
    (rw c.as_slice-octets.ensures.value at c.in-Ok.ensures.ok) ∙ take_all _ (bits_of_octets octets) (omega (arith, length-bits_of_octets octets)) in
    rw c.in-Whole.is (IfOk-weaker c.show_block.result _ _ (λ answered h. (
      h.0,
      h.1,
      subst (λ b. ShowsBlock Text (of_plan c.args.plan.now) b h.0) all h.2,
      h.3,
    )) c.show_block.ensures.ok)

pub returns-in-Ok-clause-err : goal.returns-in-Ok-clause-err
returns-in-Ok-clause-err c = c.show_block.ensures.err

pub returns-in_default-clause-err : goal.returns-in_default-clause-err
returns-in_default-clause-err c = ([], sym (append-nil c.args.out.now.items))

pub returns-in_err-extend_from_slice-in-Waiting-clause-ok : goal.returns-in_err-extend_from_slice-in-Waiting-clause-ok
returns-in_err-extend_from_slice-in-Waiting-clause-ok c = IfOk-from_err c.from_residual.result _ c.from_residual.ensures.0

pub returns-in_err-extend_from_slice-in-Waiting-clause-err : goal.returns-in_err-extend_from_slice-in-Waiting-clause-err
returns-in_err-extend_from_slice-in-Waiting-clause-err c = OnErr-from c.from_residual.result
    ([], c.in_err-extend_from_slice-in-Waiting.ensures.items ∙ sym (append-nil _))

pub returns-in_err-push_number-in-Waiting-clause-ok : goal.returns-in_err-push_number-in-Waiting-clause-ok
returns-in_err-push_number-in-Waiting-clause-ok c = IfOk-from_err c.from_residual-in_err-push_number-in-Waiting.result
    _ c.from_residual-in_err-push_number-in-Waiting.ensures.0

pub returns-in_err-push_number-in-Waiting-clause-err : goal.returns-in_err-push_number-in-Waiting-clause-err
returns-in_err-push_number-in-Waiting-clause-err c = OnErr-from c.from_residual-in_err-push_number-in-Waiting.result
    (codes "wait ", c.in_err-push_number-in-Waiting.ensures.err ∙ c.in_ok-extend_from_slice-in-Waiting.ensures.items)

pub returns-in_err-extend_from_slice-in-Refused-clause-ok : goal.returns-in_err-extend_from_slice-in-Refused-clause-ok
returns-in_err-extend_from_slice-in-Refused-clause-ok c =
    IfOk-from_err c.from_residual-in_err-extend_from_slice-in-Refused.result _
    c.from_residual-in_err-extend_from_slice-in-Refused.ensures.0

pub returns-in_err-extend_from_slice-in-Refused-clause-err : goal.returns-in_err-extend_from_slice-in-Refused-clause-err
returns-in_err-extend_from_slice-in-Refused-clause-err c =
    OnErr-from c.from_residual-in_err-extend_from_slice-in-Refused.result
    ([], c.in_err-extend_from_slice-in-Refused.ensures.items ∙ sym (append-nil _))

pub returns-in_err-push_number-in-Refused-clause-ok : goal.returns-in_err-push_number-in-Refused-clause-ok
returns-in_err-push_number-in-Refused-clause-ok c = IfOk-from_err c.from_residual-in_err-push_number-in-Refused.result
    _ c.from_residual-in_err-push_number-in-Refused.ensures.0

pub returns-in_err-push_number-in-Refused-clause-err : goal.returns-in_err-push_number-in-Refused-clause-err
returns-in_err-push_number-in-Refused-clause-err c = OnErr-from c.from_residual-in_err-push_number-in-Refused.result
    (codes "bad ", c.in_err-push_number-in-Refused.ensures.err ∙ c.in_ok-extend_from_slice-in-Refused.ensures.items)
