use Rattle.std.proofs.Common.{ℕ, ◌<◌, ◌≤◌, ◌≢◌, slice_index}
use Rattle.csn_lexer.proofs.gap.line_end.Given as goal

abbrev pub invariant-loop-end : goal.invariant-loop-end
invariant-loop-end l = (k : ℕ) → l.at ≤ k → k < l.end → slice_index l.text k ≢ 10
