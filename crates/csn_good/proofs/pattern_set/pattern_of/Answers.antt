use Rattle.std.proofs.Common.{◌≡◌, suc, ◌+◌, ◌-◌, ◌++◌, ◌∙◌, ap, arith}
use Rattle.csn_good.specs.Numbers.{marks_of}
use Rattle.csn_good.proofs.pattern_set.pattern_of.Goals as goal

pub loop-at-preserved : goal.loop-at-preserved
loop-at-preserved c =
    let less = c.loop-at-test.true in
    let size : suc (12 - (c.loop-at.at + 1)) ≡ 12 - c.loop-at.at = omega (arith, less) in (
      c.push_next-rest.ensures.marks (12 - (c.loop-at.at + 1))
          ∙ ap (λ n. c.loop-at.pattern.marks ++ marks_of n c.loop-at.rest) size ∙ c.loop-at.invariant.0,
      c.push_next-rest.ensures.whole ∙ c.loop-at.invariant.1,
      omega (arith, c.push_next-rest.ensures.room, c.loop-at.invariant.2),
    )
