use Rattle.std.proofs.Common.{◌≡◌, ◌≤◌, length}
use Rattle.csn_fields.specs.Outlines.{AreOutlines}
use Rattle.csn_fields.proofs.outlines.outlines.Given as goal

-- the last nodes have their outlines
abbrev pub invariant-loop-i : goal.invariant-loop-i
invariant-loop-i g l = (l.i ≤ length l.plan.nodes) × (length l.outlines.items ≡ length l.plan.nodes) × AreOutlines l.plan l.outlines.items

abbrev pub decreases-loop-i : goal.decreases-loop-i
decreases-loop-i g l = l.i
