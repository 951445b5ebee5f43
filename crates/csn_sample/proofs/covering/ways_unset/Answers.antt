use Rattle.std.proofs.Common.{ℕ, subst, arith}
use Rattle.csn_sample.specs.Covering.{IsUnmetWith}
use Rattle.csn_sample.proofs.WaysUnset.{nodes_next}
use Rattle.csn_sample.proofs.covering.ways_unset.Goals as goal

pub loop-i-preserved : goal.loop-i-preserved
loop-i-preserved g c = record {
  ways = nodes_next c.args.plan.now c.loop-i.i c.node.result.now c.args.marks.now c.loop-i.unmet.items c.add_unset.new.unmet.items
      c.node.ensures.node
      (subst (λ (count : ℕ). IsUnmetWith c.loop-i.i count c.args.marks.now c.loop-i.unmet.items c.add_unset.new.unmet.items)
      c.ways-count.ensures c.in_ok-add_unset.ensures)
      c.loop-i.invariant.ways;
  steps = omega (arith, c.loop-i.invariant.steps, c.node.ensures.step);
}
