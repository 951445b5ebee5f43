use Rattle.csn_plan.proofs.Reasons.{resolved_reason}
use Rattle.csn_plan.proofs.compiling.certified.Goals as goal

pub returns-in-Err-clause-none : goal.returns-in-Err-clause-none
returns-in-Err-clause-none c = λ text has. resolved_reason text _ _ c.args.rules.now c.in-Err.fault has c.in-Err.ensures.refused
