use Rattle.std.proofs.Common.{◌≡◌, ℕ, length, None}
use Rattle.csn_movetext.specs.Templates.{template_at}
use Rattle.csn_movetext.proofs.templates.no_templates.Given as goal

-- so many nodes have none
abbrev pub invariant-loop : goal.invariant-loop
invariant-loop l = (length l.templates.items ≡ l.counter) × ((i : ℕ) → template_at l.templates.items i ≡ None)
