use Rattle.std.proofs.Common.{◌*◌, ◌<◌}
use Rattle.csn_look.specs.KeySteps.{MarksStarts}
use Rattle.csn_look.proofs.starts.mark_starts.Given as goal

-- the words from the places of this number on are marked
abbrev pub invariant-loop-at : goal.invariant-loop-at
invariant-loop-at l = record {
  some : 0 < l.at;
  marked : MarksStarts (64 * l.at) l.fn.marks l.marks;
}

-- and those from this place on
abbrev pub invariant-loop-place : goal.invariant-loop-place
invariant-loop-place l = record {
  some : 0 < l.place;
  marked : MarksStarts l.place l.fn.marks l.marks;
}
