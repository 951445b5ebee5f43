use Rattle.std.proofs.Common.{◌++◌, [], ◌∷◌, append-nil, ap, sym, ◌∙◌, arith}
use Rattle.std.proofs.lemmas.List.{take_all}
use Rattle.std.proofs.lemmas.Result.{err_from_is_err_and}
use Rattle.csn_lines.specs.OutLine.{steps_text}
use Rattle.csn_plan.proofs.Texts.{grown, on_ok_none}
use Rattle.csn_lines.proofs.AnswerLemmas.{step_written, path_of_steps}
use Rattle.csn_lines.proofs.ProgressLemmas.{OnErr-from}
use Rattle.csn_lines.proofs.write.push_path.Goals as goal

pub loop-at-preserved : goal.loop-at-preserved
loop-at-preserved c = step_written _ _ _ _ c.args.path.now c.loop-at.at c.get.result c.get.ensures c.loop-at.invariant
    c.in_ok-push-2.ensures.items c.in_ok-push_number.ensures.ok

pub returns-in_err-push_number-clause-err : goal.returns-in_err-push_number-clause-err
returns-in_err-push_number-clause-err c =
    let p = err_from_is_err_and c.from_residual-in_err-push_number.result c.from_residual-in_err-push_number.ensures.1 in
    rw p.1 (grown _ _ _ _ (47 ∷ []) c.loop-at.invariant (c.in_err-push_number.ensures.err ∙ c.in_ok-push-2.ensures.items))

pub returns-clause-ok : goal.returns-clause-ok
returns-clause-ok c =
    let count = c.len.ensures.count in
    let at_end = c.len-at-end.ensures.count in
    let all = take_all c.loop-at.at c.args.path.now (omega (arith, at_end, c.loop-at-test.false)) in
    c.loop-at.invariant ∙ ap (λ l. c.args.out.now.items ++ l) (ap steps_text all ∙ path_of_steps c.args.path.now (omega (arith, count, c.if-len-eq0.false)))

pub returns-in_err-push-clause-ok : goal.returns-in_err-push-clause-ok
returns-in_err-push-clause-ok c = on_ok_none c.from_residual.result _ c.from_residual.ensures.0

pub returns-in_err-push-clause-err : goal.returns-in_err-push-clause-err
returns-in_err-push-clause-err c = OnErr-from c.from_residual.result ([], c.in_err-push.ensures.items ∙ sym (append-nil _))

pub loop-at-init : goal.loop-at-init
loop-at-init c = sym (append-nil _)

pub returns-in_err-push-2-clause-ok : goal.returns-in_err-push-2-clause-ok
returns-in_err-push-2-clause-ok c = on_ok_none c.from_residual-in_err-push-2.result _ c.from_residual-in_err-push-2.ensures.0

pub returns-in_err-push-2-clause-err : goal.returns-in_err-push-2-clause-err
returns-in_err-push-2-clause-err c = OnErr-from c.from_residual-in_err-push-2.result (_, c.in_err-push-2.ensures.items ∙ c.loop-at.invariant)

pub returns-in_err-push_number-clause-ok : goal.returns-in_err-push_number-clause-ok
returns-in_err-push_number-clause-ok c = on_ok_none c.from_residual-in_err-push_number.result _ c.from_residual-in_err-push_number.ensures.0
