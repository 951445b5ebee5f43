use Rattle.std.proofs.Common.{◌≡◌, length, refl, ap, sym, ◌∙◌, arith, None, Some, unwrap_or}
use Rattle.std.proofs.lemmas.Option.{slice_get_read}
use Rattle.csn_fields.specs.Outlines.{outline_at}
use Rattle.csn_fields.proofs.OutlineFacts.{if_had}
use Rattle.csn_fields.proofs.outlines.push_part.Goals as goal

pub returns-in-Some : goal.returns-in-Some
returns-in-Some c =
    let read = slice_get_read c.args.outlines.now (length c.args.outlines.now)
    c.from.result c.index-outlines-from.result refl (omega (arith, c.from.ensures, c.requires.part))
    c.index-outlines-from.is in
    let there : outline_at c.args.outlines.now c.args.part ≡ Some c.in-Some.made =
    ap (λ k. outline_at c.args.outlines.now k) (sym c.from.ensures) ∙ ap (λ o. unwrap_or o None) read ∙ c.in-Some.is in
    if_had c.push_part.result c.args.outlines.now c.args.part c.args.behind c.in-Some.made c.args.outline.now c.push_part.new.self there c.push_part.ensures
