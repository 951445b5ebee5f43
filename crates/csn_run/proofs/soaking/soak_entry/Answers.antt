use Rattle.std.proofs.Common.{[], subst}
use Rattle.csn_desc.specs.Nodes.{DescV}
use Rattle.csn_desc.specs.declared.reading.Reading.TheVariants.{Sent}
use Rattle.csn_soak.specs.Soaking.{IsSoaked}
use Rattle.csn_plan.specs.Compiled.{rule_of_entry}
use Rattle.csn_run.proofs.JobLemmas.{soak_compiles, soak_ends, reason_ends}
use Rattle.csn_run.proofs.soaking.soak_entry.Goals as goal

pub returns-in-Err-clause-ends : goal.returns-in-Err-clause-ends
returns-in-Err-clause-ends c = λ words files row watchers left taken.
    reason_ends words files watchers [] (rule_of_entry Sent c.args.entry) [] left taken _ c.in-Err.reason _
    (λ told e. soak_compiles words told c.args.entry c.args.blocks row) tt c.plan_of_entry.ensures.fits
    c.in-Err.ensures.none c.refuse.ensures

pub returns-clause-ends : goal.returns-clause-ends
returns-clause-ends c = λ words files row watchers left taken.
    let is = c.in-Ok.ensures.plan in
    let P : DescV → Type 0 = λ d. IsSoaked d c.args.entry c.args.blocks c.in-Ok-soak.soaked in
    soak_ends words files watchers c.args.entry c.args.blocks is.0 c.in-Ok.plan c.in-Ok-soak.soaked left taken _ _ row
    c.plan_of_entry.ensures.fits is.1 (subst P c.plan-2.ensures.plan c.in-Ok-soak.ensures)
    c.tell_soaked.ensures.ok c.tell_soaked.ensures.err
