use Rattle.std.proofs.Common.{◌∙◌, ◌+◌, ℕ, ap, arith}
use Rattle.std.specs.Prelude.{length}
use Rattle.std.proofs.lemmas.List.{length_push}
use Rattle.std.proofs.lemmas.Option.{slice_get_within}
use Rattle.csn_sample.proofs.Marked.{marks_next, none_next}
use Rattle.csn_sample.proofs.marks.WayMarks.new.Goals as goal

pub loop-i-preserved : goal.loop-i-preserved
loop-i-preserved g c = record {
  long = ap length c.in_ok-push.ensures.items ∙ (length_push c.loop-i.rows.items _ ∙ ap (λ (n : ℕ). n + 1) c.loop-i.invariant.long);
  many = marks_next c.args.plan.now c.loop-i.rows.items _ c.in_ok-row.row c.loop-i.i c.node.result.now c.node.ensures.node
      c.loop-i.invariant.long (c.in_ok-row.ensures.many ∙ c.ways-count.ensures) c.in_ok-push.ensures.items c.loop-i.invariant.many;
  none = none_next c.loop-i.rows.items _ c.in_ok-row.row c.in_ok-push.ensures.items c.in_ok-row.ensures.none c.loop-i.invariant.none;
  steps = omega (arith, c.loop-i.invariant.steps, c.node.ensures.step);
}

pub returns-clause-many : goal.returns-clause-many
returns-clause-many g c = λ i node look.
    let within = slice_get_within c.args.plan.now.nodes i node look in
    c.loop-i.invariant.many i node (omega (arith, within, c.loop-i-test.false, c.len-i-end.ensures.len)) look
