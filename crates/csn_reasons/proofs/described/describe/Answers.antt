use Rattle.csn_plan.proofs.Reasons.{resolved_reason}
use Rattle.csn_reasons.proofs.described.describe.Goals as goal

pub returns-in-Err-resolve-clause-none : goal.returns-in-Err-resolve-clause-none
returns-in-Err-resolve-clause-none c =
    resolved_reason c.args.asked.text.now c.args.asked.name.now c.args.asked.reading c.in-Ok.rules c.in-Err-resolve.fault
    c.in-Ok.ensures.rules c.in-Err-resolve.ensures.refused
