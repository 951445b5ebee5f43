use Rattle.std.proofs.Common.{arith}
use Rattle.csn_fields.proofs.OutlineFacts.{laid_wide}
use Rattle.csn_fields.proofs.outlines.width_in_front.Goals as goal

pub returns-else-width-gt56-clause-wide : goal.returns-else-width-gt56-clause-wide
returns-else-width-gt56-clause-wide c =
    λ o v b t means. omega (arith, laid_wide c.args.plan.now c.args.part c.in_ok-layout.layout c.in_ok-layout.ensures o v b t means)
