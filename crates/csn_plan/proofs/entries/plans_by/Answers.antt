use Rattle.std.proofs.Common.{arith, length, ap, subst}
use Rattle.csn_certify.specs.declared.certifying.CertifyFault.TheVariants.{NoMemory}
use Rattle.std.proofs.lemmas.List.{take_all}
use Rattle.csn_catalogue.specs.Entries.{all_entries}
use Rattle.csn_catalogue.specs.Text.{catalogue_text}
use Rattle.csn_plan.specs.declared.compiling.NoPlan.TheVariants.{Plan}
use Rattle.csn_plan.specs.Compiled.{AreCompiled}
use Rattle.csn_plan.proofs.EntryPlans.{none_before, one_plan_more}
use Rattle.csn_plan.proofs.entries.plans_by.Goals as goal

pub returns-in-Err-clause-none : goal.returns-in-Err-clause-none
returns-in-Err-clause-none c =
    none_before c.args.reading c.args.rules.now _ c.loop-entry.entry-index _ _ c.entries-entry-items.ensures
    (omega (arith, c.loop-entry-test.true)) c.root_of.ensures c.requires.fits c.loop-entry.plans.items
    c.in-Err.reason c.loop-entry.invariant (c.in-Err.ensures.none catalogue_text c.requires.rules)

pub returns-in_default-clause-none : goal.returns-in_default-clause-none
returns-in_default-clause-none c =
    none_before c.args.reading c.args.rules.now _ c.loop-entry.entry-index _ _ c.entries-entry-items.ensures
    (omega (arith, c.loop-entry-test.true)) c.root_of.ensures c.requires.fits c.loop-entry.plans.items
    (Plan NoMemory) c.loop-entry.invariant tt

pub loop-entry-preserved : goal.loop-entry-preserved
loop-entry-preserved c =
    one_plan_more c.args.reading c.args.rules.now _ c.loop-entry.entry-index _ _ c.entries-entry-items.ensures
    (omega (arith, c.loop-entry-test.true)) c.root_of.ensures c.loop-entry.plans.items _ c.in-Ok.plan
    c.in-Ok-keep_plan.ensures c.loop-entry.invariant (c.in-Ok.ensures.plan catalogue_text c.requires.rules)

pub loop-entry-init : goal.loop-entry-init
loop-entry-init c = rw c.new-plans.ensures.items tt

pub returns-clause-plans : goal.returns-clause-plans
returns-clause-plans c =
    let all = take_all c.loop-entry.entry-index all_entries (omega (arith, c.loop-entry-test.false, ap length c.entries-entry-items.ensures)) in
    subst (λ l. AreCompiled c.args.rules.now c.args.reading l c.loop-entry.plans.items) all c.loop-entry.invariant
