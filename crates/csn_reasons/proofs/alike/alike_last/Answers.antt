use Rattle.std.proofs.Common.{arith}
use Rattle.csn_reasons.proofs.Likened.{common_last_is}
use Rattle.csn_reasons.proofs.alike.alike_last.Goals as goal

pub returns-then-a-back : goal.returns-then-a-back
returns-then-a-back c =
    common_last_is c.args.a.now c.args.b.now c.loop-back.back (omega arith) (omega arith) c.loop-back.invariant (λ more less same. c.if-a-back.true same)

pub returns : goal.returns
returns c =
    common_last_is c.args.a.now c.args.b.now c.min-most.result (omega arith) (omega arith)
    (λ k below. c.loop-back.invariant k (omega (arith, below))) (λ more less. absurd (omega (arith, more, less)))
