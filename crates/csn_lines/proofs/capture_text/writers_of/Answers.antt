use Rattle.std.proofs.Common.{arith, refl, sym, ◌∙◌}
use Rattle.std.proofs.lemmas.List.{take_all}
use Rattle.csn_lines.proofs.CaptureLemmas.{descs_push, fresh_nil, fresh_push, texts_nil, texts_push}
use Rattle.csn_lines.proofs.CaptureLemmas.{pushed}
use Rattle.csn_lines.proofs.capture_text.writers_of.Goals as goal

pub loop-plan-init : goal.loop-plan-init
loop-plan-init c = rw c.new-writers.ensures.items (refl, texts_nil, fresh_nil)

pub loop-plan-preserved : goal.loop-plan-preserved
loop-plan-preserved c =
    let more = pushed c.push.result _ _ _ c.push.ensures.items (sym c.is_err.ensures.value ∙ c.if-is_err.false) in
    rw more (
      descs_push c.loop-plan.writers.items c.line_text.result c.args.plans.now c.loop-plan.plan-index
          c.plan-item.result c.loop-plan.invariant.0 (omega (arith, c.loop-plan-test.true))
          c.plan-item.is c.line_text.ensures.desc,
      texts_push c.loop-plan.writers.items c.line_text.result c.loop-plan.invariant.1 c.line_text.ensures.form,
      fresh_push c.loop-plan.writers.items c.line_text.result c.loop-plan.invariant.2 c.line_text.ensures.reads,
    )

pub returns-clause-descs : goal.returns-clause-descs
returns-clause-descs c = c.loop-plan.invariant.0 ∙ take_all c.loop-plan.plan-index c.args.plans.now (omega (arith, c.loop-plan-test.false))

pub returns-clause-texts : goal.returns-clause-texts
returns-clause-texts c = c.loop-plan.invariant.1

pub returns-clause-fresh : goal.returns-clause-fresh
returns-clause-fresh c = c.loop-plan.invariant.2
