use Rattle.std.proofs.Common.{refl, arith}
use Rattle.csn_lexer.specs.Gap.IsGap.{none}
use Rattle.csn_lexer.proofs.Gaps.{join_gaps}
use Rattle.csn_lexer.proofs.gap.gap_end.Goals as goal

pub loop-end-init : goal.loop-end-init
loop-end-init c = record { from = omega arith; within = c.requires; gap = none refl }

pub loop-end-preserved : goal.loop-end-preserved
loop-end-preserved c = record {
  from = omega (arith, c.in-Some.ensures.some.0);
  within = c.in-Some.ensures.some.1;
  gap = join_gaps c.loop-end.invariant.gap c.in-Some.ensures.some.2;
}
