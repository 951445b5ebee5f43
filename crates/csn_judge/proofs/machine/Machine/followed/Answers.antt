use Rattle.std.proofs.Common.{◌≡◌, ◌+◌, ◌-◌, ◌%◌, false, take, subst, arith}
use Rattle.csn_certify.specs.declared.pick.Pick.TheVariants.{Refuse}
use Rattle.csn_certify.specs.Picks.{Picks}
use Rattle.csn_judge.proofs.machine.Machine.followed.Goals as goal

pub loop-count-init : goal.loop-count-init
loop-count-init g c =
    let same : c.args.ready ≡ c.args.ready - 1 + 1 = omega (arith, c.requires.some) in (
      omega (arith, c.requires.some),
      subst (λ n. Picks c.args.self.now.plan.now 12 c.args.i (c.args.source.now.place % 8)
          (take n c.args.source.now.bits) false Refuse) same c.requires.refused,
      omega arith,
    )

pub refuses-requires-clause-few : goal.refuses-requires-clause-few
refuses-requires-clause-few g c = omega (arith, c.loop-count.invariant.0, c.requires.few)

pub refuses-requires-clause-held : goal.refuses-requires-clause-held
refuses-requires-clause-held g c = omega (arith, c.loop-count.invariant.0, c.requires.held)

pub loop-count-smaller : goal.loop-count-smaller
loop-count-smaller g c = let some = (c.refuses.ensures.refused c.loop-count-test.true).0 in omega (arith, some)

pub loop-count-preserved : goal.loop-count-preserved
loop-count-preserved g c =
    let found = c.refuses.ensures.refused c.loop-count-test.true in
    let same : c.loop-count.count ≡ c.loop-count.count - 1 + 1 = omega (arith, found.0) in (
      omega (arith, c.loop-count.invariant.0),
      subst (λ n. Picks c.args.self.now.plan.now 12 c.args.i (c.args.source.now.place % 8) (take n c.args.source.now.bits) false Refuse) same found.1,
      omega (arith, c.loop-count.invariant.2, c.refuses.ensures.steps, found.0),
    )

pub returns-clause-less : goal.returns-clause-less
returns-clause-less g c = c.loop-count.invariant.0

pub returns-clause-refused : goal.returns-clause-refused
returns-clause-refused g c = c.loop-count.invariant.1

pub returns-clause-steps : goal.returns-clause-steps
returns-clause-steps g c = omega (arith, c.loop-count.invariant.2, c.refuses.ensures.steps)
