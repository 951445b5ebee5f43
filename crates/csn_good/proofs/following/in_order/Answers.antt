use Rattle.std.proofs.Common.{refl, drop}
use Rattle.csn_good.specs.ClaimedSets.{claims_of}
use Rattle.csn_good.proofs.EndsTold.{ends_small}
use Rattle.csn_good.proofs.SetArms.{reached_small, starts_small}
use Rattle.csn_good.proofs.Tailing.{tail_none}
use Rattle.csn_good.proofs.FollowArms.{are_counted, ends_reach, order_begin, order_on, order_not, order_done}
use Rattle.csn_good.proofs.following.in_order.Goals as goal

pub loop-at-init : goal.loop-at-init
loop-at-init c =
    order_begin (claims_of c.args.c.now) (ends_small c.args.c.now) (starts_small c.args.c.now)
    (are_counted c.args.c.now) (reached_small c.args.c.now c.requires.certificate) (ends_reach c.args.c.now)
    c.args.k c.args.ends_early c.args.parts.now c.len-at.result c.none-tail.result c.len-at.ensures.len
    (tail_none (claims_of c.args.c.now) c.none-tail.result c.none-tail.ensures.nullable c.none-tail.ensures.zero c.none-tail.ensures.one)

pub returns-then-not-has_wanted : goal.returns-then-not-has_wanted
returns-then-not-has_wanted c = (
  (λ h. absurd (cc)),
  (λ h. let right = c.has_wanted.ensures.1 (order_not (claims_of c.args.c.now) (ends_small c.args.c.now)
      (starts_small c.args.c.now) (are_counted c.args.c.now) (reached_small c.args.c.now c.requires.certificate)
      (ends_reach c.args.c.now) c.args.k c.args.ends_early c.args.parts.now c.loop-at.at c.get-part.result
      c.loop-at.tail c.loop-at-test.true c.get-part.ensures c.loop-at.invariant h) in
      let wrong = c.if-not-has_wanted.true in absurd (cc)),
)

pub loop-at-preserved : goal.loop-at-preserved
loop-at-preserved c =
    order_on (claims_of c.args.c.now) (ends_small c.args.c.now) (starts_small c.args.c.now) (are_counted c.args.c.now)
    (reached_small c.args.c.now c.requires.certificate) (ends_reach c.args.c.now)
    c.args.k c.args.ends_early c.args.parts.now c.loop-at.at c.get-part.result c.loop-at.tail c.behind-tail.result
    c.loop-at-test.true c.get-part.ensures (c.has_wanted.ensures.0 c.if-not-has_wanted.false)
    (c.behind-tail.ensures (drop c.loop-at.at c.args.parts.now) c.loop-at.invariant.tail_is) c.loop-at.invariant

pub returns : goal.returns
returns c = (
  (λ h. order_done (claims_of c.args.c.now) (ends_small c.args.c.now) (starts_small c.args.c.now)
      (are_counted c.args.c.now) (reached_small c.args.c.now c.requires.certificate) (ends_reach c.args.c.now)
      c.args.k c.args.ends_early c.args.parts.now c.loop-at.at c.loop-at.tail c.loop-at-test.false c.loop-at.invariant),
  (λ h. refl),
)
