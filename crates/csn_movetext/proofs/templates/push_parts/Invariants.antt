use Rattle.std.proofs.Common.{◌≤◌}
use Rattle.csn_movetext.proofs.TemplateFacts.{PartsBehind}
use Rattle.csn_movetext.proofs.templates.push_parts.Given as goal

-- the first parts are written
abbrev pub invariant-loop-k : goal.invariant-loop-k
invariant-loop-k l = (l.behind ≤ 56) × PartsBehind l.made.plan.now l.parts l.width l.made.templates.now l.k l.behind l.fn.template l.template
