use Rattle.std.proofs.Common.{◌≡◌, suc, ◌∙◌, ap, arith}
use Rattle.std.proofs.lemmas.Result.{err_from_is_err_and}
use Rattle.csn_resolve.specs.Walk.{inside, entering, node_at}
use Rattle.csn_resolve.specs.Views.{around_view}
use Rattle.csn_resolve.proofs.Walking.GoingFacts.{stops-first, stops-later}
use Rattle.csn_resolve.proofs.steps.begin_turn.Goals as goal

pub returns-in_err-enter-clause-steps : goal.returns-in_err-enter-clause-steps
returns-in_err-enter-clause-steps c = λ r.
    let p = err_from_is_err_and c.from_residual-in_err-enter.result c.from_residual-in_err-enter.ensures.1 in
    let around = around_view r c.args.around in
    let deep : c.inside-braces.result.depth ≡ suc c.args.around.depth = omega arith in
    let refusal = rw deep at (c.in_err-enter.ensures.steps c.in_ok-begun.begun.nodes) in
    rw (p.1, p.2) (stops-later c.args.begun.nodes c.in_ok-begun.begun.nodes (node_at around c.args.end.braces) _ _ c.in_ok-begun.ensures.steps
    (stops-first c.in_ok-begun.begun.nodes (entering (inside around) c.args.end.braces) _ _ refusal))

pub returns-clause-around : goal.returns-clause-around
returns-clause-around c = λ r.
    c.inside-around.ensures.around r ∙ ap inside (c.inside-sequence.ensures.around r ∙ ap inside (c.inside-braces.ensures.around r))
