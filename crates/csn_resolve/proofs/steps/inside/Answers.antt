use Rattle.std.proofs.Common.{◌≡◌, ◌+◌, ℕ, suc, ap, arith}
use Rattle.csn_resolve.specs.Views.{entered_view, seen_view}
use Rattle.csn_resolve.proofs.steps.inside.Goals as goal

pub returns-clause-around : goal.returns-clause-around
returns-clause-around c = λ r.
    let deep : c.args.around.depth + 1 ≡ suc c.args.around.depth = omega arith in
    ap (λ (z : ℕ). record { depth = z; names = entered_view c.args.around.names.now; seen = seen_view r c.args.around.seen.now }) deep
