use Rattle.std.proofs.Common.{slice_index, ◌+◌, arith, None, Some, refl, sym, ap, subst, ◌∙◌}
use Rattle.csn_treetext.specs.reader.Numeral.{grown}
use Rattle.csn_treetext.specs.reader.Mode.{Start, Number}
use Rattle.csn_treetext.specs.reader.Machine.{HasRoom, state}
use Rattle.csn_treetext.specs.reader.Reading.{Stands}
use Rattle.csn_treetext.proofs.ReadingFacts.{led, number_grows, numeral_led}
use Rattle.csn_treetext.proofs.StopFacts.{hash_first, hash_stops, number_stops, number_ends}
use Rattle.csn_treetext.proofs.steps.alternative.Goals as goal

pub returns-in_default : goal.returns-in_default
returns-in_default c =
    hash_stops c.args.source.version c.args.source.text.now c.args.from c.args.stack.now c.requires.within c.requires.comes
    (λ low. ap (λ m. grown m None (slice_index c.args.source.text.now c.args.from)) (sym c.from-most.ensures) ∙ c.in_default.ensures.none low)

pub returns-then-not-stands_at : goal.returns-then-not-stands_at
returns-then-not-stands_at c =
    let (low, few, first) = c.in-Some.ensures.some in
    let text = c.args.source.text.now in
    let stack = c.args.stack.now in
    let (number, end) = c.digits-number.result in
    let e = numeral_led c.args.source.version text c.args.from _ _ _ end number Number stack c.from-most.ensures
    (number_grows c.args.source.version stack)
    (hash_first c.args.source.version text c.args.from _ stack c.requires.comes low)
    first c.digits-number.ensures.leads in
    number_stops c.args.source.version text end number stack c.digits-number.ensures.within e
    (λ within. ap (λ m. grown m (Some number) (slice_index text end)) (sym c.from-most.ensures) ∙ c.digits-number.ensures.stops within)
    (c.if-not-stands_at.ensures.no refl)

pub returns : goal.returns
returns c =
    let (low, few, first) = c.in-Some.ensures.some in
    let text = c.args.source.text.now in
    let stack = c.args.stack.now in
    let (number, end) = c.digits-number.result in
    let e = numeral_led c.args.source.version text c.args.from _ _ _ end number Number stack c.from-most.ensures
    (number_grows c.args.source.version stack)
    (hash_first c.args.source.version text c.args.from _ stack c.requires.comes low)
    first c.digits-number.ensures.leads in
    let (within, colon) = c.if-not-stands_at.ensures.yes refl in
    let begins = led (number_ends c.args.source.version text end number stack e within colon) in (
      omega arith,
      omega arith,
      subst HasRoom (sym c.in_ok-push.ensures) c.requires.room,
      subst (λ s. Stands c.args.source.version text (end + 1) (state Start s)) (sym c.in_ok-push.ensures) begins,
    )
