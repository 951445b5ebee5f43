use Rattle.std.proofs.Common.{◌≡◌, ◌+◌, suc, subst, arith}
use Rattle.csn_good.specs.Patterns.{TimesPatterns}
use Rattle.csn_good.specs.Made.{AreMade}
use Rattle.csn_good.proofs.Making.{times_begin, times_on, times_stay}
use Rattle.csn_good.proofs.made.made_of_times.Goals as goal

pub loop-turn-init : goal.loop-turn-init
loop-turn-init c = times_begin c.args.c.now c.args.i c.in_ok-made.made.at.items c.in_ok-made.ensures

pub behind-requires-clause-made : goal.behind-requires-clause-made
behind-requires-clause-made c = c.loop-turn.invariant.eight

pub is_same-requires-clause-made : goal.is_same-requires-clause-made
is_same-requires-clause-made c = c.in_ok-more.ensures.eight

pub is_same-requires-clause-other : goal.is_same-requires-clause-other
is_same-requires-clause-other c = c.loop-turn.invariant.eight

pub returns-then-same : goal.returns-then-same
returns-then-same c =
    let on = times_on c.args.c.now c.loop-turn.turn c.args.i c.loop-turn.made.at.items c.in_ok-more.more.at.items c.loop-turn.invariant c.in_ok-more.ensures in
    let same = c.in_ok-same.ensures c.if-same.true in
    let less = c.loop-turn-test.true in
    times_stay c.args.c.now c.args.n c.loop-turn.turn c.args.i c.loop-turn.made.at.items c.in_ok-more.more.at.items
    (omega arith) c.loop-turn.invariant on (λ o p. (same o p).0) (λ o p. (same o p).1)

pub loop-turn-preserved : goal.loop-turn-preserved
loop-turn-preserved c =
    let on = times_on c.args.c.now c.loop-turn.turn c.args.i c.loop-turn.made.at.items c.in_ok-more.more.at.items c.loop-turn.invariant c.in_ok-more.ensures in
    let next : suc c.loop-turn.turn ≡ c.loop-turn.turn + 1 = omega arith in
    subst (λ n. AreMade c.in_ok-more.more.at.items (TimesPatterns c.args.c.now n c.args.i)) next on

pub returns : goal.returns
returns c =
    let over = c.loop-turn-test.false in
    let auto = c.loop-turn.auto in
    let all : c.loop-turn.turn ≡ c.args.n = omega arith in
    subst (λ n. AreMade c.loop-turn.made.at.items (TimesPatterns c.args.c.now n c.args.i)) all c.loop-turn.invariant
