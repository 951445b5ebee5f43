use Rattle.std.proofs.Common.{[], ◌∷◌, ◌∙◌}
use Rattle.std.proofs.lemmas.Result.{err_from_is_err_and}
use Rattle.csn_plan.proofs.Texts.{grown}
use Rattle.csn_plan.proofs.numbers.push_numbers.Goals as goal

pub returns-in_err-push_number-clause-err : goal.returns-in_err-push_number-clause-err
returns-in_err-push_number-clause-err c =
    let p = err_from_is_err_and c.from_residual-in_err-push_number.result c.from_residual-in_err-push_number.ensures.1 in
    rw p.1 (grown _ _ _ _ (32 ∷ []) c.loop-number.invariant (c.in_err-push_number.ensures.err ∙ c.in_ok-push.ensures.items))
