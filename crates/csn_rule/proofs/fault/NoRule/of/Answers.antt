use Rattle.std.proofs.Common.{subst}
use Rattle.csn_plan.specs.Compiled.{IsReason}
use Rattle.csn_rule.proofs.fault.NoRule.of.Goals as goal

pub returns-in-Description : goal.returns-in-Description
returns-in-Description c = λ text name reading is.
    c.of_rules.ensures text name reading (subst (λ reason. IsReason text name reading reason) c.in-Description.is is)
