use Rattle.std.proofs.Common.{◌≤◌}
use Rattle.csn_sample.proofs.drawn.Drawn.components.Given as goal

abbrev pub invariant-loop-at : goal.invariant-loop-at
invariant-loop-at l = l.most ≤ l.at
