use Rattle.std.proofs.Common.{subst}
use Rattle.csn_plan.specs.declared.compiling.NoPlan.TheVariants.{Description}
use Rattle.csn_plan.specs.Compiled.{IsReason}
use Rattle.csn_rule.proofs.fault.NoRule.of_rules.Goals as goal

pub returns-in-Refused : goal.returns-in-Refused
returns-in-Refused c = λ text name reading is.
    subst (λ fault. IsReason text name reading (Description fault)) c.in-Refused.is is
