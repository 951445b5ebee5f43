use Rattle.std.proofs.Common.{◌≡◌, ℕ, ◌-◌, ◌≤◌, List, length, set, Option, None, Some, IfSome, sym, ap, subst, arith, ◌∙◌}
use Rattle.std.proofs.lemmas.List.{length-set}
use Rattle.csn_desc.specs.Nodes.{DescV}
use Rattle.csn_fields.specs.declared.outline.Mark.{Mark}
use Rattle.csn_fields.specs.Outlines.{AreOutlines, IsOutline}
use Rattle.csn_fields.proofs.OutlineFacts.{outlines_set, kept_outline}
use Rattle.csn_fields.proofs.outlines.outlines.Goals as goal

-- the node before those that have their outlines gets its own
one_more : (d : DescV) (outlines : List (Option (List Mark))) (i at : ℕ) (made kept : Option (List Mark)) → at ≡ i - 1
    → (i ≤ length d.nodes) × (length outlines ≡ length d.nodes) × AreOutlines d outlines
    → IfSome kept (λ t. made ≡ Some t) → IfSome made (IsOutline d (i - 1))
    → (i - 1 ≤ length d.nodes) × (length (set outlines at kept) ≡ length d.nodes) × AreOutlines d (set outlines at kept)
one_more d outlines i at made kept here so same outline = (
  omega (arith, so.0),
  length-set _ _ _ ∙ so.1,
  outlines_set d outlines at kept so.2
      (kept_outline kept made (IsOutline d at) same (subst (λ j. IfSome made (IsOutline d j)) (sym here) outline)),
)

pub loop-i-init : goal.loop-i-init
loop-i-init g c = (
  omega (arith, c.len-i.ensures.len),
  c.in_ok-outlines.ensures.len ∙ c.len.ensures.len,
  λ i t e. absurd (let clash : None ≡ Some t = sym (c.in_ok-outlines.ensures.none i) ∙ e in cc),
)

pub outline_of-requires-clause-node : goal.outline_of-requires-clause-node
outline_of-requires-clause-node g c = omega (arith, c.loop-i-test.true, c.loop-i.invariant.0)

pub outline_of-requires-clause-many : goal.outline_of-requires-clause-many
outline_of-requires-clause-many g c = ap length c.as_slice.ensures.value ∙ c.loop-i.invariant.1

pub outline_of-requires-clause-outlines : goal.outline_of-requires-clause-outlines
outline_of-requires-clause-outlines g c = subst (λ l. AreOutlines c.args.plan.now l) (sym c.as_slice.ensures.value) c.loop-i.invariant.2

pub loop-i-preserved-in_ok-made : goal.loop-i-preserved-in_ok-made
loop-i-preserved-in_ok-made g c = one_more c.args.plan.now c.loop-i.outlines.items c.loop-i.i
    c.from.result c.in_ok-made.made c.with_room.result c.from.ensures c.loop-i.invariant c.with_room.ensures
    c.in_ok-made.ensures

pub loop-i-preserved : goal.loop-i-preserved
loop-i-preserved g c = one_more c.args.plan.now c.loop-i.outlines.items c.loop-i.i c.from.result
    c.in_ok-made.made c.with_room.result c.from.ensures c.loop-i.invariant c.with_room.ensures c.in_ok-made.ensures

pub returns : goal.returns
returns g c = c.loop-i.invariant.2
