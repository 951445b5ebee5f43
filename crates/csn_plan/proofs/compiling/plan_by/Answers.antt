use Rattle.std.proofs.Common.{subst, sym}
use Rattle.csn_desc.specs.Nodes.{DescV}
use Rattle.csn_plan.specs.Compiled.{IsCompiled}
use Rattle.csn_plan.proofs.compiling.plan_by.Goals as goal

pub returns-in-Ok-clause-plan : goal.returns-in-Ok-clause-plan
returns-in-Ok-clause-plan c = λ text has.
    let P : DescV → Type 0 = λ d. IsCompiled text c.args.name.now c.args.reading c.args.rules.now d in
    subst P (sym c.in-Ok.ensures) (c.in_ok-plan.ensures.plan text has)
