use Rattle.std.proofs.Common.{subst, sym}
use Rattle.std.proofs.lemmas.Result.{err_from_is_err_and}
use Rattle.csn_rule.specs.Refusals.{IsNoBlock}
use Rattle.csn_rule.proofs.writing.block_by_tree.Goals as goal

pub returns-in_err-tree-clause-none : goal.returns-in_err-tree-clause-none
returns-in_err-tree-clause-none c =
    let p = err_from_is_err_and c.from_residual.result c.from_residual.ensures.1 in
    rw p.1 (subst (IsNoBlock c.args.form c.args.plan.now c.args.bytes.now) (sym p.2)
    (c.in_err-tree.ensures.none c.args.plan.now))
