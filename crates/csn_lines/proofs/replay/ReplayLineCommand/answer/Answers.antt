use Rattle.std.proofs.Common.{◌∷◌, ◌++◌, [], Some, None, append_assoc, ap, refl, sym, ◌∙◌}
use Rattle.std.proofs.lemmas.Result.{IfOk-from_err}
use Rattle.csn_lines.specs.Language.{of_plans}
use Rattle.csn_lines.specs.Work.{watching}
use Rattle.csn_plan.proofs.Texts.{grown, on_ok_none}
use Rattle.csn_lines.proofs.ProgressLemmas.{OnErr-from, refusal_with_feed}
use Rattle.csn_lines.proofs.ReplayedLines.{reported}
use Rattle.csn_lines.proofs.WorkLemmas.{watched_line}
use Rattle.csn_lines.proofs.replay.ReplayLineCommand.answer.Goals as goal

pub returns-in_default-clause-ok : goal.returns-in_default-clause-ok
returns-in_default-clause-ok g c = λ line reads some.
    let told = c.in_ok-answered.ensures.ok line reads in (
      told.0 ++ 10 ∷ [],
      c.in_ok-push.ensures.items ∙ ap (λ l. l ++ 10 ∷ []) told.1 ∙ append_assoc _ told.0 (10 ∷ []),
      watched_line told.0 None (rw c.in_default.is at told.2) (refl, refl),
      told.3 ∙ sym (refusal_with_feed told.0 []),
    )

pub returns-in-Ok-clause-ok : goal.returns-in-Ok-clause-ok
returns-in-Ok-clause-ok g c = λ line reads some.
    let told = c.in_ok-answered.ensures.ok line reads in
    let taken = reported _ _ _ _ _ c.in-Ok.is c.tell.ensures.wrote c.new-reports.ensures.taken c.taken.ensures in (
      told.0 ++ 10 ∷ c.taken.result.now,
      c.in_ok-extend_from_slice-in-Ok.ensures.items ∙ ap (λ l. l ++ c.taken.result.now)
          (c.in_ok-push.ensures.items ∙ ap (λ l. l ++ 10 ∷ []) told.1 ∙ append_assoc _ told.0 (10 ∷ []))
          ∙ append_assoc _ (told.0 ++ 10 ∷ []) c.taken.result.now ∙ ap (λ l. c.args.out.now.items ++ l)
          (append_assoc told.0 (10 ∷ []) c.taken.result.now),
      watched_line told.0 (Some c.in-Some.seen) (rw c.in-Some.is at told.2) (ap (λ r. told.0 ++ 10 ∷ r) taken, c.tell.ensures.watchers),
      told.3 ∙ sym (refusal_with_feed told.0 c.taken.result.now),
    )

pub returns-in_err-answered-clause-ok : goal.returns-in_err-answered-clause-ok
returns-in_err-answered-clause-ok g c = IfOk-from_err c.from_residual.result _ c.from_residual.ensures.0

pub returns-in_err-answered-clause-anew : goal.returns-in_err-answered-clause-anew
returns-in_err-answered-clause-anew g c = on_ok_none c.from_residual.result _ c.from_residual.ensures.0

pub returns-in_err-answered-clause-work : goal.returns-in_err-answered-clause-work
returns-in_err-answered-clause-work g c = ap (λ plans. watching (of_plans plans)) c.in_err-answered.ensures.descs

pub returns-in_err-answered-clause-err : goal.returns-in_err-answered-clause-err
returns-in_err-answered-clause-err g c = OnErr-from c.from_residual.result (c.in_err-answered.ensures.err c.requires.0 c.requires.1)

pub returns-in_err-push-clause-ok : goal.returns-in_err-push-clause-ok
returns-in_err-push-clause-ok g c = IfOk-from_err c.from_residual-in_err-push.result _ c.from_residual-in_err-push.ensures.0

pub returns-in_err-push-clause-anew : goal.returns-in_err-push-clause-anew
returns-in_err-push-clause-anew g c = on_ok_none c.from_residual-in_err-push.result _ c.from_residual-in_err-push.ensures.0

pub returns-in_err-push-clause-work : goal.returns-in_err-push-clause-work
returns-in_err-push-clause-work g c = ap (λ plans. watching (of_plans plans)) c.in_ok-answered.ensures.descs

pub returns-in_err-push-clause-err : goal.returns-in_err-push-clause-err
returns-in_err-push-clause-err g c =
    let told = c.in_ok-answered.ensures.ok c.requires.0 c.requires.1 in
    OnErr-from c.from_residual-in_err-push.result (told.0, c.in_err-push.ensures.items ∙ told.1)

pub returns-in_default-clause-anew : goal.returns-in_default-clause-anew
returns-in_default-clause-anew g c = c.in_ok-answered.ensures.anew c.requires.0 c.requires.1

pub returns-in_default-clause-work : goal.returns-in_default-clause-work
returns-in_default-clause-work g c = ap (λ plans. watching (of_plans plans)) c.in_ok-answered.ensures.descs

pub returns-in_err-extend_from_slice-in-Ok-clause-ok : goal.returns-in_err-extend_from_slice-in-Ok-clause-ok
returns-in_err-extend_from_slice-in-Ok-clause-ok g c =
    IfOk-from_err c.from_residual-in_err-extend_from_slice-in-Ok.result _
    c.from_residual-in_err-extend_from_slice-in-Ok.ensures.0

pub returns-in_err-extend_from_slice-in-Ok-clause-anew : goal.returns-in_err-extend_from_slice-in-Ok-clause-anew
returns-in_err-extend_from_slice-in-Ok-clause-anew g c =
    on_ok_none c.from_residual-in_err-extend_from_slice-in-Ok.result _
    c.from_residual-in_err-extend_from_slice-in-Ok.ensures.0

pub returns-in_err-extend_from_slice-in-Ok-clause-work : goal.returns-in_err-extend_from_slice-in-Ok-clause-work
returns-in_err-extend_from_slice-in-Ok-clause-work g c = ap (λ plans. watching (of_plans plans)) c.in_ok-answered.ensures.descs

pub returns-in_err-extend_from_slice-in-Ok-clause-err : goal.returns-in_err-extend_from_slice-in-Ok-clause-err
returns-in_err-extend_from_slice-in-Ok-clause-err g c =
    let told = c.in_ok-answered.ensures.ok c.requires.0 c.requires.1 in
    OnErr-from c.from_residual-in_err-extend_from_slice-in-Ok.result
    (grown _ _ _ told.0 (10 ∷ []) told.1 (c.in_err-extend_from_slice-in-Ok.ensures.items
    ∙ c.in_ok-push.ensures.items))

pub returns-in-Ok-clause-anew : goal.returns-in-Ok-clause-anew
returns-in-Ok-clause-anew g c = c.in_ok-answered.ensures.anew c.requires.0 c.requires.1

pub returns-in-Ok-clause-work : goal.returns-in-Ok-clause-work
returns-in-Ok-clause-work g c = ap (λ plans. watching (of_plans plans)) c.in_ok-answered.ensures.descs

pub returns-in-WriteFault-clause-work : goal.returns-in-WriteFault-clause-work
returns-in-WriteFault-clause-work g c = ap (λ plans. watching (of_plans plans)) c.in_ok-answered.ensures.descs

pub returns-in-WriteFault-clause-err : goal.returns-in-WriteFault-clause-err
returns-in-WriteFault-clause-err g c = let told = c.in_ok-answered.ensures.ok c.requires.0 c.requires.1 in
    grown _ _ _ told.0 (10 ∷ []) told.1 c.in_ok-push.ensures.items

pub returns-clause-work : goal.returns-clause-work
returns-clause-work g c = ap (λ plans. watching (of_plans plans)) c.in_ok-answered.ensures.descs

pub returns-clause-err : goal.returns-clause-err
returns-clause-err g c = let told = c.in_ok-answered.ensures.ok c.requires.0 c.requires.1 in grown _ _ _ told.0 (10 ∷ []) told.1 c.in_ok-push.ensures.items
