use Rattle.std.proofs.Common.{◌≡◌, ◌≤◌, length}
use Rattle.csn_movetext.specs.Openings.{AreTemplates}
use Rattle.csn_movetext.proofs.templates.templates.Given as goal

-- the last nodes have their templates
abbrev pub invariant-loop-i : goal.invariant-loop-i
invariant-loop-i g l = (l.i ≤ length l.plan.nodes) × (length l.templates.items ≡ length l.plan.nodes) × AreTemplates l.plan l.openings l.templates.items

abbrev pub decreases-loop-i : goal.decreases-loop-i
decreases-loop-i g l = l.i
