use Rattle.std.proofs.Common.{◌+◌, ◌*◌, ◌-◌, true}
use Rattle.csn_desc.specs.Values.{Values}
use Rattle.csn_encode.specs.Writing.{StandsAtPart, StandsAtParts}
use Rattle.csn_encode.proofs.Steps.{PartsDone, TurnsDone}
use Rattle.csn_encode.proofs.draft.Draft.+write.Given as goal

abbrev pub decreases-write : goal.decreases-write
decreases-write g l = 5 * (64 - l.round) + 4

abbrev pub decreases-sequence : goal.decreases-sequence
decreases-sequence g l = 5 * (64 - l.round) + 3

abbrev pub decreases-choice : goal.decreases-choice
decreases-choice g l = 5 * (64 - l.round) + 3

abbrev pub decreases-times : goal.decreases-times
decreases-times g l = 5 * (64 - l.round) + 3

abbrev pub decreases-many : goal.decreases-many
decreases-many g l = 5 * (64 - l.round) + 3

abbrev pub decreases-truncation : goal.decreases-truncation
decreases-truncation g l = 5 * (64 - l.round) + 3

abbrev pub decreases-window : goal.decreases-window
decreases-window g l = 5 * (64 - l.round) + 3

abbrev pub decreases-named : goal.decreases-named
decreases-named g l = 5 * (64 - l.round) + 3

abbrev pub decreases-parts : goal.decreases-parts
decreases-parts g l = 5 * (64 - l.round) + 2

abbrev pub decreases-turns : goal.decreases-turns
decreases-turns g l = 5 * (64 - l.round) + 2

abbrev pub decreases-below : goal.decreases-below
decreases-below g l = 5 * (64 - l.round) + 1

abbrev pub invariant-parts-loop-at : goal.invariant-parts-loop-at
invariant-parts-loop-at g l = (v : Values) → StandsAtParts l.plan true l.parts l.round v l.fn.self
    → PartsDone l.plan l.parts l.rows l.round v l.fn.self l.at l.kept l.self

abbrev pub invariant-turns-loop-at : goal.invariant-turns-loop-at
invariant-turns-loop-at g l = (v : Values) → StandsAtPart l.plan l.part l.round v l.fn.self → TurnsDone l.plan l.part l.rows l.round v l.fn.self l.at l.self
