use Rattle.std.proofs.Common.{◌+◌, ◌≤◌}
use Rattle.csn_sample.specs.Covering.{AllUnmet}
use Rattle.csn_sample.proofs.covering.ways_unset.Given as goal

abbrev pub invariant-loop-i : goal.invariant-loop-i
invariant-loop-i g l = record {
  ways : AllUnmet l.plan l.i l.unmet.items l.marks;
  steps : l.steps ≤ l.fn.steps + l.i;
}
