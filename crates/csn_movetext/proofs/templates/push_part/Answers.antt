use Rattle.std.proofs.Common.{◌≡◌, length, refl, ap, sym, ◌∙◌, arith, None, Some, unwrap_or}
use Rattle.std.proofs.lemmas.Option.{slice_get_read}
use Rattle.csn_movetext.specs.Templates.{template_at}
use Rattle.csn_movetext.proofs.TemplateFacts.{if_had}
use Rattle.csn_movetext.proofs.templates.push_part.Goals as goal

pub returns-in-Some : goal.returns-in-Some
returns-in-Some c =
    let read = slice_get_read c.args.templates.now (length c.args.templates.now)
    c.from.result c.index-templates-from.result refl (omega (arith, c.from.ensures, c.requires.part))
    c.index-templates-from.is in
    let there : template_at c.args.templates.now c.args.part ≡ Some c.in-Some.made =
    ap (λ k. template_at c.args.templates.now k) (sym c.from.ensures) ∙ ap (λ o. unwrap_or o None) read ∙ c.in-Some.is in
    if_had c.push_part.result c.args.templates.now c.args.part c.args.behind c.in-Some.made c.args.template.now c.push_part.new.self there c.push_part.ensures
