use Rattle.std.proofs.Common.{◌≡◌, ◌+◌, ◌<◌, ◌≤◌, ℕ, length, Some}
use Rattle.std.specs.Prelude.{slice_get}
use Rattle.csn_desc.specs.declared.node.Node.{Node}
use Rattle.csn_sample.specs.Ways.{ways}
use Rattle.csn_sample.specs.Covering.{IsMarked, marks_at}
use Rattle.csn_sample.proofs.marks.WayMarks.new.Given as goal

abbrev pub invariant-loop-i : goal.invariant-loop-i
invariant-loop-i g l = record {
  long : length l.rows.items ≡ l.i;
  many : (k : ℕ) (node : Node) → k < l.i → slice_get l.plan.nodes k ≡ Some node → marks_at l.rows.items k ≡ ways node;
  none : (i way : ℕ) → ¬ IsMarked l.rows.items i way;
  steps : l.steps ≤ l.fn.steps + l.i;
}
