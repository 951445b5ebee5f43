use Rattle.std.proofs.Common.{◌≡◌, ℕ, [], ◌∷◌, length, None, sym, ap, subst, arith, length-append}
use Rattle.csn_fields.specs.Outlines.{outline_at}
use Rattle.csn_fields.proofs.OutlineFacts.{none_pushed}
use Rattle.csn_fields.proofs.outlines.no_outlines.Goals as goal

pub loop-preserved : goal.loop-preserved
loop-preserved c = (
  omega (arith, ap length c.in_ok-push.ensures.items, length-append c.loop.outlines.items (None ∷ []), c.loop.invariant.0),
  subst (λ l. (i : ℕ) → outline_at l i ≡ None) (sym c.in_ok-push.ensures.items) (none_pushed c.loop.outlines.items c.loop.invariant.1),
)
