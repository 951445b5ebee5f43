use Rattle.std.proofs.Common.{◌∷◌, ◌++◌, [], ℕ, List, ◌<◌, ◌≤◌, length, append_assoc, ap, sym, subst, ◌∙◌}
use Rattle.std.proofs.lemmas.Result.{IfOk-from_err}
use Rattle.csn_lines.specs.declared.lines.TheConstants.{MOST_INPUT}
use Rattle.csn_plan.proofs.Texts.{on_ok_none}
use Rattle.csn_lines.proofs.ProgressLemmas.{OnErr-from, refusal_with_feed}
use Rattle.csn_lines.proofs.whole_lines.WholeLinesLineCommand.answer.Goals as goal

pub answer-requires-clause-some : goal.answer-requires-clause-some
answer-requires-clause-some g c = subst (λ (l : List ℕ). 0 < length l) (sym (c.deref.ensures.value ∙ c.requires.1)) c.requires.2

pub answer-requires-clause-fits : goal.answer-requires-clause-fits
answer-requires-clause-fits g c = subst (λ (l : List ℕ). length l ≤ MOST_INPUT) (sym (c.deref.ensures.value ∙ c.requires.1)) c.requires.3

pub returns-in_err-answered-clause-ok : goal.returns-in_err-answered-clause-ok
returns-in_err-answered-clause-ok g c = IfOk-from_err c.from_residual.result _ c.from_residual.ensures.0

pub returns-in_err-answered-clause-anew : goal.returns-in_err-answered-clause-anew
returns-in_err-answered-clause-anew g c = on_ok_none c.from_residual.result _ c.from_residual.ensures.0

pub returns-in_err-answered-clause-work : goal.returns-in_err-answered-clause-work
returns-in_err-answered-clause-work g c = c.in_err-answered.ensures.work

pub returns-in_err-answered-clause-err : goal.returns-in_err-answered-clause-err
returns-in_err-answered-clause-err g c = OnErr-from c.from_residual.result c.in_err-answered.ensures.err

pub returns-in_err-push-clause-ok : goal.returns-in_err-push-clause-ok
returns-in_err-push-clause-ok g c = IfOk-from_err c.from_residual-in_err-push.result _ c.from_residual-in_err-push.ensures.0

pub returns-in_err-push-clause-anew : goal.returns-in_err-push-clause-anew
returns-in_err-push-clause-anew g c = on_ok_none c.from_residual-in_err-push.result _ c.from_residual-in_err-push.ensures.0

pub returns-in_err-push-clause-work : goal.returns-in_err-push-clause-work
returns-in_err-push-clause-work g c = c.in_ok-answered.ensures.work

pub returns-in_err-push-clause-err : goal.returns-in_err-push-clause-err
returns-in_err-push-clause-err g c = let told = c.in_ok-answered.ensures.ok in
    OnErr-from c.from_residual-in_err-push.result (told.0, c.in_err-push.ensures.items ∙ told.1)

pub returns-clause-anew : goal.returns-clause-anew
returns-clause-anew g c = c.clear.ensures.items

pub returns-clause-work : goal.returns-clause-work
returns-clause-work g c = c.in_ok-answered.ensures.work

pub returns-clause-ok : goal.returns-clause-ok
returns-clause-ok g c = λ line reads some.
    let told = c.in_ok-answered.ensures.ok in (
      told.0 ++ 10 ∷ [],
      c.in_ok-push.ensures.items ∙ ap (λ l. l ++ 10 ∷ []) told.1 ∙ append_assoc _ told.0 (10 ∷ []),
      (rw (c.deref.ensures.value ∙ reads) at told.2),
      told.3 ∙ sym (refusal_with_feed told.0 []),
    )
