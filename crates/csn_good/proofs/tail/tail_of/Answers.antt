use Rattle.std.proofs.Common.{drop, List, ℕ, sym, subst}
use Rattle.csn_look.proofs.Sets.Telling.{last_none, last_all, last_more}
use Rattle.csn_good.specs.ClaimedSets.{claims_of}
use Rattle.csn_good.specs.Tails.{TailIs}
use Rattle.csn_good.proofs.Tailing.{tail_none}
use Rattle.csn_good.proofs.tail.tail_of.Goals as goal

pub loop-at-init : goal.loop-at-init
loop-at-init c =
    subst (λ (ps : List ℕ). TailIs (claims_of c.args.c.now) c.none-tail.result ps) (sym (last_none c.args.parts.now c.len-at.result c.len-at.ensures.len))
    (tail_none (claims_of c.args.c.now) c.none-tail.result c.none-tail.ensures.nullable c.none-tail.ensures.zero c.none-tail.ensures.one)

pub loop-at-preserved : goal.loop-at-preserved
loop-at-preserved c =
    subst (λ (ps : List ℕ). TailIs (claims_of c.args.c.now) c.behind-tail.result ps)
    (sym (last_more c.args.parts.now c.loop-at.at c.get.result c.loop-at-test.true c.get.ensures))
    (c.behind-tail.ensures (drop c.loop-at.at c.args.parts.now) c.loop-at.invariant)

pub returns : goal.returns
returns c =
    subst (λ (ps : List ℕ). TailIs (claims_of c.args.c.now) c.loop-at.tail ps)
    (last_all c.args.parts.now c.loop-at.at c.loop-at-test.false) c.loop-at.invariant
