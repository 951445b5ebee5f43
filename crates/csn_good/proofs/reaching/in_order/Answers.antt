use Rattle.std.proofs.Common.{◌≡◌, refl, sym, subst, arith}
use Rattle.csn_good.specs.ClaimedSets.{claims_of}
use Rattle.csn_good.proofs.EndsTold.{ends_small}
use Rattle.csn_good.proofs.ReachArms.{HasAll, order_begin, order_on, order_not, order_done}
use Rattle.csn_good.proofs.reaching.in_order.Goals as goal

pub loop-at-init : goal.loop-at-init
loop-at-init c = order_begin (claims_of c.args.c.now) c.args.parts.now c.args.begins.now.has

pub returns-then-not-has_all : goal.returns-then-not-has_all
returns-then-not-has_all c = (
  (λ h. absurd (cc)),
  (λ h. let right =
      c.has_all.ensures.1 (order_not (claims_of c.args.c.now) c.args.parts.now c.loop-at.at c.get.result
      c.args.begins.now.has c.loop-at.here.has c.get.ensures c.loop-at.invariant h) in
      let wrong = c.if-not-has_all.true in absurd (cc)),
)

pub loop-at-preserved : goal.loop-at-preserved
loop-at-preserved c =
    order_on (claims_of c.args.c.now) (ends_small c.args.c.now) c.args.parts.now c.loop-at.at c.get-in-loop-at.result
    c.args.begins.now.has c.loop-at.here.has c.through-here.result.has c.get-in-loop-at.ensures
    c.through-here.ensures
    (let same : c.get-in-loop-at.result ≡ c.get.result = (let one = c.get-in-loop-at.ensures in let two = c.get.ensures in cc) in
    subst (λ i. HasAll (claims_of c.args.c.now) i c.loop-at.here.has) (sym same) (c.has_all.ensures.0 c.if-not-has_all.false))
    c.loop-at.invariant

pub returns : goal.returns
returns c = (
  (λ h. order_done (claims_of c.args.c.now) c.args.parts.now c.loop-at.at c.args.begins.now.has
      c.loop-at.here.has (omega (arith, c.loop-at-test.false, c.len-at-end.ensures.len)) c.loop-at.invariant),
  (λ h. refl),
)
