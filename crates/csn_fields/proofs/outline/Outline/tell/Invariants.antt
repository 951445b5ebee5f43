use Rattle.std.proofs.Common.{◌≤◌, length, reverse, take}
use Rattle.csn_fields.specs.Events.{Told}
use Rattle.csn_fields.specs.Outlines.{filled}
use Rattle.csn_fields.proofs.outline.Outline.tell.Given as goal

-- the first of the events are told, and the others are left
abbrev pub invariant-loop-at : goal.invariant-loop-at
invariant-loop-at g l =
    (l.at ≤ length (reverse l.self))
    × ((last : g.row.E.Denot) → Told g.E.Events.tells (filled l.role (reverse (take l.at (reverse l.self))) l.end l.number) l.events last
    → Told g.E.Events.tells (filled l.fn.role l.self l.end l.number) l.fn.events last)

abbrev pub decreases-loop-at : goal.decreases-loop-at
decreases-loop-at g l = l.at
