use Rattle.std.proofs.Common.{◌≡◌, ◌<◌, length, arith, sym, ◌∙◌, ap, subst, Some, get_or}
use Rattle.std.specs.Prelude.{slice_get}
use Rattle.std.proofs.lemmas.Option.{slice_get-get_or}
use Rattle.csn_movetext.specs.Pool.{text_at, IsWithin}
use Rattle.csn_movetext.specs.Openings.{OpeningsV, opening_in}
use Rattle.csn_movetext.proofs.PoolFacts.{text_there, no_text}
use Rattle.csn_movetext.proofs.openings.Openings.get.Goals as goal

pub opening_at-requires : goal.opening_at-requires
opening_at-requires c =
    let places = c.self.inside.places.items in
    let place = c.index-place.result.now in
    let small : c.args.i < length places = omega (arith, c.if-from-len.true, c.from.ensures, c.len.ensures) in
    let there : slice_get places c.args.i ≡ Some place =
    slice_get-get_or places c.args.i place small
    ∙ ap (λ k. Some (get_or places k place)) (sym c.from-then-from-len.ensures) ∙ ap Some (sym c.index-place.ensures) in
    subst (λ l. IsWithin l c.as_slice-then-from-len.result.now place) (sym c.as_slice.ensures.value)
    (subst (λ l. IsWithin c.self.inside.pool.items l place) (sym c.as_slice-then-from-len.ensures.value) (c.self.invariant.within c.args.i place there))

pub returns-then-from-len : goal.returns-then-from-len
returns-then-from-len c =
    let places = c.self.inside.places.items in
    let place = c.index-place.result.now in
    let small : c.args.i < length places = omega (arith, c.if-from-len.true, c.from.ensures, c.len.ensures) in
    let there : slice_get places c.args.i ≡ Some place =
    slice_get-get_or places c.args.i place small
    ∙ ap (λ k. Some (get_or places k place)) (sym c.from-then-from-len.ensures) ∙ ap Some (sym c.index-place.ensures) in
    let form = c.args.self.now.form in
    c.opening_at.ensures form
    ∙ ap (λ l. text_at form l c.as_slice-then-from-len.result.now place) c.as_slice.ensures.value
    ∙ ap (λ l. text_at form c.self.inside.pool.items l place) c.as_slice-then-from-len.ensures.value
    ∙ ap (λ (o : OpeningsV). text_at o.form c.self.inside.pool.items c.self.inside.labels.items place) (sym c.self.view_is)
    ∙ text_there c.self.inside.form c.self.inside.pool.items c.self.inside.labels.items places c.self.inside.templates.items c.args.i place there
    ∙ ap (λ (o : OpeningsV). opening_in o c.args.i) c.self.view_is

pub returns-else-from-len : goal.returns-else-from-len
returns-else-from-len c =
    no_text c.self.inside.form c.self.inside.pool.items c.self.inside.labels.items c.self.inside.places.items
    c.self.inside.templates.items c.args.i (omega (arith, c.if-from-len.false, c.from.ensures, c.len.ensures))
    ∙ ap (λ (o : OpeningsV). opening_in o c.args.i) c.self.view_is
