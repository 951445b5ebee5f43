use Rattle.std.proofs.Common.{arith}
use Rattle.csn_cert.specs.Growing.{claimed}
use Rattle.csn_good.specs.ClaimedSets.{patterns_at}
use Rattle.csn_good.specs.Made.{MadeAt}
use Rattle.csn_good.proofs.Making.{in_none, in_turn, next_makes, some_none, some_on, some_done, claimed_pattern, claimed_count}
use Rattle.csn_good.proofs.made.Made.add_each.Goals as goal

pub loop-k-init : goal.loop-k-init
loop-k-init c = λ p. (
  (λ h. absurd (in_none c.requires.none h)),
  (λ h. absurd (some_none (MadeAt c.args.self.now.at.items) c.args.octet (patterns_at c.args.c.now c.args.i c.args.octet) p h)),
)

pub loop-k-preserved : goal.loop-k-preserved
loop-k-preserved c = λ p.
    let at = claimed_pattern (claimed c.args.c.now c.args.i c.args.octet) c.loop-k.k c.pattern_at.result c.requires.has c.pattern_at.ensures in
    next_makes (c.in_ok-add_made.ensures p) (c.loop-k.invariant p) (some_on (MadeAt c.args.self.now.at.items)
    c.args.octet (patterns_at c.args.c.now c.args.i c.args.octet) c.loop-k.k c.pattern_at.result p at)

pub returns : goal.returns
returns c = λ p.
    let count = claimed_count (claimed c.args.c.now c.args.i c.args.octet) c.patterns-k-end.result c.requires.has c.patterns-k-end.ensures in
    let over = c.loop-k-test.false in
    in_turn (c.loop-k.invariant p) (some_done (MadeAt c.args.self.now.at.items) c.args.octet
    (patterns_at c.args.c.now c.args.i c.args.octet) c.loop-k.k p (omega arith))
