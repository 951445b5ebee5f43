use Rattle.std.proofs.Common.{◌≡◌, ℕ, List, ◌∷◌, ◌++◌, ◌∙◌, codes}
use Rattle.std.proofs.lemmas.Result.{on_ok_weaker, on_err_weaker}
use Rattle.csn_lines.specs.OutLine.{path_text, why_text}
use Rattle.csn_plan.proofs.Texts.{grown, on_ok_none}
use Rattle.csn_lines.proofs.AnswerLemmas.{misfit_written}
use Rattle.csn_lines.proofs.ProgressLemmas.{OnErr-from}
use Rattle.csn_lines.proofs.write.answer_misfit.Goals as goal

pub returns-clause-ok : goal.returns-clause-ok
returns-clause-ok c =
    on_ok_weaker c.push_why.result (λ wrote. misfit_written _ _ _ _ _ _ (path_text c.args.misfit.now.path)
    (why_text c.args.misfit.now.why) c.in_ok-extend_from_slice.ensures.items c.in_ok-push_path.ensures.ok
    c.in_ok-push.ensures.items wrote) c.push_why.ensures.ok

pub returns-clause-err : goal.returns-clause-err
returns-clause-err c =
    on_err_weaker c.push_why.result
    (λ (told : (tail : List ℕ) × (c.push_why.new.out.items ≡ c.push.new.self.items ++ tail)). (
      codes "no " ++ (path_text c.args.misfit.now.path ++ 32 ∷ told.0),
      misfit_written _ _ _ _ _ _
          (path_text c.args.misfit.now.path) told.0 c.in_ok-extend_from_slice.ensures.items c.in_ok-push_path.ensures.ok
          c.in_ok-push.ensures.items told.1,
    )) c.push_why.ensures.err

pub returns-in_err-push-clause-ok : goal.returns-in_err-push-clause-ok
returns-in_err-push-clause-ok c = on_ok_none c.from_residual-in_err-push.result _ c.from_residual-in_err-push.ensures.0

pub returns-in_err-push-clause-err : goal.returns-in_err-push-clause-err
returns-in_err-push-clause-err c =
    OnErr-from c.from_residual-in_err-push.result (grown _ _ _ _ (path_text c.args.misfit.now.path)
    c.in_ok-extend_from_slice.ensures.items (c.in_err-push.ensures.items ∙ c.in_ok-push_path.ensures.ok))

pub returns-in_err-push_path-clause-ok : goal.returns-in_err-push_path-clause-ok
returns-in_err-push_path-clause-ok c = on_ok_none c.from_residual-in_err-push_path.result _ c.from_residual-in_err-push_path.ensures.0

pub returns-in_err-push_path-clause-err : goal.returns-in_err-push_path-clause-err
returns-in_err-push_path-clause-err c =
    let told = c.in_err-push_path.ensures.err in
    OnErr-from c.from_residual-in_err-push_path.result (grown _ _ _ _ told.0 c.in_ok-extend_from_slice.ensures.items told.1)

pub returns-in_err-extend_from_slice-clause-ok : goal.returns-in_err-extend_from_slice-clause-ok
returns-in_err-extend_from_slice-clause-ok c = on_ok_none c.from_residual.result _ c.from_residual.ensures.0
