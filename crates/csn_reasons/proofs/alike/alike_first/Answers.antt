use Rattle.std.proofs.Common.{arith}
use Rattle.csn_reasons.proofs.Likened.{common_is}
use Rattle.csn_reasons.proofs.alike.alike_first.Goals as goal

pub returns-then-a-at : goal.returns-then-a-at
returns-then-a-at c =
    common_is c.args.a.now c.args.b.now c.loop-at.at (omega arith) (omega arith) c.loop-at.invariant (λ more less same. c.if-a-at.true same)

pub returns : goal.returns
returns c =
    common_is c.args.a.now c.args.b.now c.min-most.result (omega arith) (omega arith)
    (λ k below. c.loop-at.invariant k (omega (arith, below))) (λ more less. absurd (omega (arith, more, less)))
