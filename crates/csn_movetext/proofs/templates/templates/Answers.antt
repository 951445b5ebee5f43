use Rattle.std.proofs.Common.{◌≡◌, ℕ, ◌-◌, ◌≤◌, List, length, set, Option, None, Some, IfSome, sym, ap, subst, arith, ◌∙◌}
use Rattle.std.proofs.lemmas.List.{length-set}
use Rattle.csn_desc.specs.Nodes.{DescV}
use Rattle.csn_movetext.specs.declared.template.Template.{Template}
use Rattle.csn_movetext.specs.Openings.{OpeningsV, AreTemplates, IsTemplate}
use Rattle.csn_movetext.proofs.TemplateFacts.{templates_set, kept_template}
use Rattle.csn_movetext.proofs.templates.templates.Goals as goal

-- the node before those that have their templates gets its own
one_more : (d : DescV) (openings : OpeningsV) (templates : List (Option Template)) (i at : ℕ) (made kept : Option Template) → at ≡ i - 1
    → (i ≤ length d.nodes) × (length templates ≡ length d.nodes) × AreTemplates d openings templates
    → IfSome kept (λ t. made ≡ Some t) → IfSome made (IsTemplate d openings (i - 1))
    → (i - 1 ≤ length d.nodes) × (length (set templates at kept) ≡ length d.nodes) × AreTemplates d openings (set templates at kept)
one_more d openings templates i at made kept here so same template = (
  omega (arith, so.0),
  length-set _ _ _ ∙ so.1,
  templates_set d openings templates at kept so.2
      (kept_template kept made (IsTemplate d openings at) same (subst (λ j. IfSome made (IsTemplate d openings j)) (sym here) template)),
)

pub loop-i-init : goal.loop-i-init
loop-i-init g c = (
  omega (arith, c.len-i.ensures.len),
  c.in_ok-templates.ensures.len ∙ c.len.ensures.len,
  λ i t e. absurd (let clash : None ≡ Some t = sym (c.in_ok-templates.ensures.none i) ∙ e in cc),
)

pub template_of-requires-clause-node : goal.template_of-requires-clause-node
template_of-requires-clause-node g c = omega (arith, c.loop-i-test.true, c.loop-i.invariant.0)

pub template_of-requires-clause-form : goal.template_of-requires-clause-form
template_of-requires-clause-form g c = c.requires.form

pub template_of-requires-clause-opened : goal.template_of-requires-clause-opened
template_of-requires-clause-opened g c = c.requires.opened

pub template_of-requires-clause-many : goal.template_of-requires-clause-many
template_of-requires-clause-many g c = ap length c.as_slice.ensures.value ∙ c.loop-i.invariant.1

pub template_of-requires-clause-templates : goal.template_of-requires-clause-templates
template_of-requires-clause-templates g c = subst (λ l. AreTemplates c.args.plan.now c.args.openings.now l) (sym c.as_slice.ensures.value) c.loop-i.invariant.2

pub loop-i-preserved-in_ok-made : goal.loop-i-preserved-in_ok-made
loop-i-preserved-in_ok-made g c = one_more c.args.plan.now c.args.openings.now c.loop-i.templates.items c.loop-i.i
    c.from.result c.in_ok-made.made c.with_room.result c.from.ensures c.loop-i.invariant c.with_room.ensures
    c.in_ok-made.ensures

pub loop-i-preserved : goal.loop-i-preserved
loop-i-preserved g c = one_more c.args.plan.now c.args.openings.now c.loop-i.templates.items c.loop-i.i c.from.result
    c.in_ok-made.made c.with_room.result c.from.ensures c.loop-i.invariant c.with_room.ensures c.in_ok-made.ensures

pub returns : goal.returns
returns g c = c.loop-i.invariant.2
