use Rattle.std.proofs.Common.{◌≡◌, ℕ, [], ◌∷◌, length, None, sym, ap, subst, arith, length-append}
use Rattle.csn_movetext.specs.Templates.{template_at}
use Rattle.csn_movetext.proofs.TemplateFacts.{none_pushed}
use Rattle.csn_movetext.proofs.templates.no_templates.Goals as goal

pub loop-preserved : goal.loop-preserved
loop-preserved c = (
  omega (arith, ap length c.in_ok-push.ensures.items, length-append c.loop.templates.items (None ∷ []), c.loop.invariant.0),
  subst (λ l. (i : ℕ) → template_at l i ≡ None) (sym c.in_ok-push.ensures.items) (none_pushed c.loop.templates.items c.loop.invariant.1),
)
