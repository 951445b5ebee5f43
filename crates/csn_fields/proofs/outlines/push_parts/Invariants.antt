use Rattle.std.proofs.Common.{◌≤◌, drop, length}
use Rattle.csn_fields.specs.Outlines.{WithinParts}
use Rattle.csn_fields.proofs.outlines.push_parts.Given as goal

-- the last parts have their marks
abbrev pub invariant-loop-at : goal.invariant-loop-at
invariant-loop-at l =
    (l.behind ≤ 56) × (l.at ≤ length l.parts)
    × WithinParts l.made.plan.now (drop l.at l.parts) l.behind l.made.outlines.now l.fn.outline l.outline

abbrev pub decreases-loop-at : goal.decreases-loop-at
decreases-loop-at l = l.at
