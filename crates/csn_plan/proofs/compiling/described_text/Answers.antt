use Rattle.std.proofs.Common.{subst, sym}
use Rattle.std.proofs.lemmas.Result.{err_from_is_err_and}
use Rattle.csn_plan.specs.Compiled.{IsReason}
use Rattle.csn_plan.proofs.Reasons.{resolved_reason}
use Rattle.csn_plan.proofs.compiling.described_text.Goals as goal

pub returns-in_err-rules-clause-none : goal.returns-in_err-rules-clause-none
returns-in_err-rules-clause-none c =
    let p = err_from_is_err_and c.from_residual.result c.from_residual.ensures.1 in
    rw p.1 (subst (IsReason c.args.text.now c.args.name.now c.args.reading) (sym p.2) (c.in_err-rules.ensures.none c.args.name.now c.args.reading))

pub returns-clause-none : goal.returns-clause-none
returns-clause-none c = resolved_reason c.args.text.now c.args.name.now c.args.reading c.in_ok-rules.rules
    c.in-Err.fault c.in_ok-rules.ensures.rules c.in-Err.ensures.refused
