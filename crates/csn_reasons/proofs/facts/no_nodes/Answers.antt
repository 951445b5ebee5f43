use Rattle.std.proofs.Common.{subst}
use Rattle.csn_plan.specs.declared.compiling.NoPlan.TheVariants.{Description}
use Rattle.csn_plan.specs.Compiled.{IsReason}
use Rattle.csn_reasons.specs.Facts.{of_none}
use Rattle.csn_reasons.proofs.Answered.{none_refused}
use Rattle.csn_reasons.proofs.facts.no_nodes.Goals as goal

pub returns-in-Refused : goal.returns-in-Refused
returns-in-Refused c = λ text name reading is.
    let refused = subst (λ fault. IsReason text name reading (Description fault)) c.in-Refused.is is in
    of_none (none_refused text name reading c.in-Refused.why c.in-Refused.place refused) c.new.ensures.items
