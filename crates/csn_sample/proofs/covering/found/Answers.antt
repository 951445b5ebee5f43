use Rattle.std.proofs.Common.{◌∙◌, ◌*◌, ◌+◌, ℕ, refl, arith, length, subst}
use Rattle.std.specs.Prelude.{IfSome}
use Rattle.csn_desc.specs.Nodes.{DescV}
use Rattle.csn_sample.specs.declared.wish.Length.{Length}
use Rattle.csn_sample.specs.declared.wish.Length.TheVariants.{AtMost}
use Rattle.csn_sample.specs.Samples.{IsSample, work}
use Rattle.csn_sample.proofs.Work.{one_drawn, turn_done, turns_within}
use Rattle.csn_sample.proofs.covering.found.Goals as goal

pub returns-in_err-drawn-clause-steps : goal.returns-in_err-drawn-clause-steps
returns-in_err-drawn-clause-steps g c =
    let nodes : ℕ = length c.args.plan.now.nodes in
    let one : ℕ = work nodes c.args.most in
    let drawn = one_drawn c.loop-turn.sampler c.args.plan.now c.wish.result.length c.args.most c.loop-turn.steps c.attempt.new.steps
    c.loop-turn.invariant.desc c.wish.ensures c.attempt.ensures.steps in
    turns_within nodes (one + 2 * nodes) (c.loop-turn.turn + 1) _ c.args.steps.now c.attempt.new.steps
    (omega (arith, c.loop-turn-test.true, c.most_draws-turn-end.ensures))
    (turn_done nodes one (one + 2 * nodes) c.loop-turn.turn c.args.steps.now c.loop-turn.steps c.attempt.new.steps c.attempt.new.steps
    refl c.loop-turn.invariant.steps drawn (omega arith))

pub returns-in_err-kept-clause-steps : goal.returns-in_err-kept-clause-steps
returns-in_err-kept-clause-steps g c =
    let nodes : ℕ = length c.args.plan.now.nodes in
    let one : ℕ = work nodes c.args.most in
    let drawn = one_drawn c.loop-turn.sampler c.args.plan.now c.wish.result.length c.args.most c.loop-turn.steps c.attempt.new.steps
    c.loop-turn.invariant.desc c.wish.ensures c.attempt.ensures.steps in
    turns_within nodes (one + 2 * nodes) (c.loop-turn.turn + 1) _ c.args.steps.now c.attempt.new.steps
    (omega (arith, c.loop-turn-test.true, c.most_draws-turn-end.ensures))
    (turn_done nodes one (one + 2 * nodes) c.loop-turn.turn c.args.steps.now c.loop-turn.steps c.attempt.new.steps c.attempt.new.steps
    refl c.loop-turn.invariant.steps drawn (omega arith))

pub returns-in_err-go_on-clause-steps : goal.returns-in_err-go_on-clause-steps
returns-in_err-go_on-clause-steps g c =
    let nodes : ℕ = length c.args.plan.now.nodes in
    let one : ℕ = work nodes c.args.most in
    let drawn = one_drawn c.loop-turn.sampler c.args.plan.now c.wish.result.length c.args.most c.loop-turn.steps c.attempt.new.steps
    c.loop-turn.invariant.desc c.wish.ensures c.attempt.ensures.steps in
    turns_within nodes (one + 2 * nodes) (c.loop-turn.turn + 1) _ c.args.steps.now c.go_on.new.steps
    (omega (arith, c.loop-turn-test.true, c.most_draws-turn-end.ensures))
    (turn_done nodes one (one + 2 * nodes) c.loop-turn.turn c.args.steps.now c.loop-turn.steps c.attempt.new.steps c.go_on.new.steps
    refl c.loop-turn.invariant.steps drawn c.go_on.ensures)

pub loop-turn-preserved : goal.loop-turn-preserved
loop-turn-preserved g c =
    let nodes : ℕ = length c.args.plan.now.nodes in
    let one : ℕ = work nodes c.args.most in
    let drawn = one_drawn c.loop-turn.sampler c.args.plan.now c.wish.result.length c.args.most c.loop-turn.steps c.attempt.new.steps
    c.loop-turn.invariant.desc c.wish.ensures c.attempt.ensures.steps in
    let sampled =
    subst (λ (d : DescV). IfSome c.in_ok-drawn.drawn (IsSample d (AtMost c.args.most))) c.loop-turn.invariant.desc
    (subst (λ (l : Length). IfSome c.in_ok-drawn.drawn (IsSample c.loop-turn.sampler l)) c.wish.ensures c.in_ok-drawn.ensures.told) in
    record {
      desc = c.attempt.ensures.desc ∙ c.loop-turn.invariant.desc;
      many = c.keep.ensures.many;
      marks = c.in_ok-kept.ensures.marks;
      blocks = c.in_ok-kept.ensures.blocks c.args.most c.loop-turn.invariant.blocks sampled;
      steps = turn_done nodes one (one + 2 * nodes) c.loop-turn.turn c.args.steps.now c.loop-turn.steps c.attempt.new.steps c.go_on.new.steps
          refl c.loop-turn.invariant.steps drawn c.go_on.ensures;
    }

pub returns-clause-steps : goal.returns-clause-steps
returns-clause-steps g c =
    let nodes : ℕ = length c.args.plan.now.nodes in
    turns_within nodes (work nodes c.args.most + 2 * nodes) c.loop-turn.turn _ c.args.steps.now c.loop-turn.steps
    (omega (arith, c.loop-turn.auto.turn-end, c.most_draws-turn-end.ensures)) c.loop-turn.invariant.steps
