use Rattle.std.proofs.Common.{sym, ap, ◌∙◌, subst}
use Rattle.csn_movetext.specs.Openings.{OpeningsV, HasOpenings}
use Rattle.csn_movetext.proofs.TemplateFacts.{with_templates, with_none}
use Rattle.csn_movetext.proofs.openings.openings_of_plan.Goals as goal

pub returns-in-Text-clause-openings : goal.returns-in-Text-clause-openings
returns-in-Text-clause-openings g c =
    subst (λ o. HasOpenings c.args.plan.now o) (sym c.with_templates.ensures)
    (with_templates c.args.plan.now c.in_ok-openings.openings c.in_ok-templates-in-Text.templates.items
    c.in_ok-openings.ensures.opened c.in_ok-templates-in-Text.ensures)

pub templates-requires-clause-form : goal.templates-requires-clause-form
templates-requires-clause-form g c = c.in_ok-openings.ensures.form ∙ c.in-Text.is

pub templates-requires-clause-opened : goal.templates-requires-clause-opened
templates-requires-clause-opened g c = c.in_ok-openings.ensures.opened

pub returns-in-Text-clause-form : goal.returns-in-Text-clause-form
returns-in-Text-clause-form g c = ap (λ (o : OpeningsV). o.form) c.with_templates.ensures ∙ c.in_ok-openings.ensures.form

pub returns-clause-openings : goal.returns-clause-openings
returns-clause-openings g c = with_none c.args.plan.now c.in_ok-openings.openings c.in_ok-openings.ensures.opened c.in_ok-openings.ensures.templates

pub returns-clause-form : goal.returns-clause-form
returns-clause-form g c = c.in_ok-openings.ensures.form
