use Rattle.std.proofs.Common.{ℕ, ◌<◌}
use Rattle.csn_certify.specs.Overlaps.{MeetsAt}
use Rattle.csn_certify.proofs.overlaps.first_meeting.Given as goal

abbrev pub invariant-loop-at : goal.invariant-loop-at
invariant-loop-at l = (n : ℕ) → n < l.at → ¬ MeetsAt l.table l.keys n
