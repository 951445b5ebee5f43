use Rattle.std.proofs.Common.{[], ◌∙◌, append-nil, codes, sym}
use Rattle.csn_lines.proofs.AnswerLemmas.{not_put}
use Rattle.csn_plan.proofs.Texts.{on_ok_none}
use Rattle.csn_lines.proofs.ProgressLemmas.{OnErr-from}
use Rattle.csn_lines.proofs.write.answer_block.Goals as goal

pub returns-in_default-clause-err : goal.returns-in_default-clause-err
returns-in_default-clause-err c = ([], sym (append-nil c.args.out.now.items))

pub returns-in_err-extend_from_slice-clause-ok : goal.returns-in_err-extend_from_slice-clause-ok
returns-in_err-extend_from_slice-clause-ok c = on_ok_none c.from_residual.result _ c.from_residual.ensures.0

pub returns-in_err-extend_from_slice-clause-err : goal.returns-in_err-extend_from_slice-clause-err
returns-in_err-extend_from_slice-clause-err c = OnErr-from c.from_residual.result ([], c.in_err-extend_from_slice.ensures.items ∙ sym (append-nil _))

pub returns-clause-err : goal.returns-clause-err
returns-clause-err c = not_put c.extend_from_slice-2.result _ _ _ _ c.extend_from_slice-2.ensures.items
    (λ same. (codes "ok ", same ∙ c.in_ok-extend_from_slice.ensures.items))
