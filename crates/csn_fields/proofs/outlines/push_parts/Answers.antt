use Rattle.std.proofs.Common.{◌≡◌, arith, subst, drop}
use Rattle.csn_fields.specs.Outlines.{WithinParts}
use Rattle.csn_fields.proofs.OutlineFacts.{no_parts_left, part_before}
use Rattle.csn_fields.proofs.outlines.push_parts.Goals as goal

pub loop-at-init : goal.loop-at-init
loop-at-init c = (
  omega arith,
  omega (arith, c.len-at.ensures.len),
  no_parts_left c.args.made.plan.now c.args.parts.now _ c.args.made.outlines.now c.args.outline.now (omega (arith, c.len-at.ensures.len)),
)

pub push_part-requires-clause-few : goal.push_part-requires-clause-few
push_part-requires-clause-few c = c.loop-at.invariant.0

pub loop-at-preserved : goal.loop-at-preserved
loop-at-preserved c = (
  c.in-Some.ensures.few,
  omega (arith, c.loop-at.invariant.1),
  part_before c.args.made.plan.now c.args.parts.now c.loop-at.at _ c.get-part.result c.loop-at.behind c.in-Some.width c.args.made.outlines.now
      c.args.outline.now c.loop-at.outline c.push_part.new.outline (omega (arith, c.loop-at-test.true)) c.get-part.ensures c.in-Some.ensures.wide
      (c.in_ok-push_part.ensures c.if-not-branch.false) c.loop-at.invariant.2,
)

pub returns : goal.returns
returns c = λ yes.
    let none : c.loop-at.at ≡ 0 = omega (arith, c.loop-at-test.false) in (
      c.loop-at.behind,
      subst (λ k. WithinParts c.args.made.plan.now (drop k c.args.parts.now) c.loop-at.behind c.args.made.outlines.now c.args.outline.now c.loop-at.outline)
          none c.loop-at.invariant.2,
    )
