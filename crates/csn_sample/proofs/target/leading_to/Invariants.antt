use Rattle.std.proofs.Common.{◌+◌, ◌≤◌, length}
use Rattle.csn_sample.proofs.target.leading_to.Given as goal

abbrev pub invariant-loop-i : goal.invariant-loop-i
invariant-loop-i g l = l.steps + l.i ≤ l.fn.steps + length l.plan.nodes
