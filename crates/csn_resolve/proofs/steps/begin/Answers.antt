use Rattle.std.proofs.Common.{◌==◌, [], ◌∷◌}
use Rattle.std.proofs.lemmas.Result.{err_from_is_err_and}
use Rattle.csn_resolve.specs.declared.why.Why.TheVariants.{TooDeep}
use Rattle.csn_resolve.specs.Steps.{refused_if, begins}
use Rattle.csn_resolve.proofs.Walking.GoingFacts.{stops-first}
use Rattle.csn_resolve.proofs.steps.begin.Goals as goal

pub returns-in_err-enter-clause-steps : goal.returns-in_err-enter-clause-steps
returns-in_err-enter-clause-steps c =
    let p = err_from_is_err_and c.from_residual.result c.from_residual.ensures.1 in
    rw (p.1, p.2) (stops-first c.args.begun.nodes (refused_if (c.args.around.depth == 64) TooDeep c.args.place)
    (begins c.args.place ∷ []) _ (c.in_err-enter.ensures.steps c.args.begun.nodes))
