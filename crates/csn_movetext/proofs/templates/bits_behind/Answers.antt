use Rattle.std.proofs.Common.{arith}
use Rattle.csn_movetext.proofs.TemplateFacts.{laid_wide}
use Rattle.csn_movetext.proofs.templates.bits_behind.Goals as goal

pub returns-then-layout-bits-clause-ends : goal.returns-then-layout-bits-clause-ends
returns-then-layout-bits-clause-ends c =
    λ o v b t means. omega (
      arith,
      laid_wide c.args.plan.now c.args.part c.in_ok-layout.layout c.in_ok-layout.ensures
          o v b t means,
      c.if-layout-bits.true,
    )
