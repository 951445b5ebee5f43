use Rattle.std.proofs.Common.{◌∷◌, ◌++◌, [], append_assoc, ap, refl, sym, ◌∙◌}
use Rattle.csn_lines.proofs.ProgressLemmas.{OnErr-from, refusal_with_feed}
use Rattle.csn_lines.proofs.ShowLemmas.{answers_as}
use Rattle.csn_lines.proofs.WorkLemmas.{answered_alone}
use Rattle.csn_lines.proofs.show.ShowLinesLineCommand.answer.Goals as goal

pub returns-clause-ok : goal.returns-clause-ok
returns-clause-ok c = λ line reads some.
    let told = c.in_ok-answered.ensures.ok line reads in (
      told.0 ++ 10 ∷ [],
      c.in_ok-push.ensures.items ∙ ap (λ l. l ++ 10 ∷ []) told.1 ∙ append_assoc _ told.0 (10 ∷ []),
      answered_alone line (told.0, answers_as _ _ line told.0 _ told.2, refl, refl),
      told.3 ∙ sym (refusal_with_feed told.0 []),
    )

pub returns-in_err-answered-clause-err : goal.returns-in_err-answered-clause-err
returns-in_err-answered-clause-err c = OnErr-from c.from_residual.result (c.in_err-answered.ensures.err c.requires.0 c.requires.1)
