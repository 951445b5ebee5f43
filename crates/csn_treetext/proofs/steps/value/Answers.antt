use Rattle.std.proofs.Common.{slice_index, None, Some, sym, ap, subst, ◌∙◌}
use Rattle.csn_treetext.specs.reader.Numeral.{grown}
use Rattle.csn_treetext.specs.reader.Mode.{Value}
use Rattle.csn_treetext.specs.reader.Machine.{with_tree}
use Rattle.csn_treetext.specs.reader.Reading.{Stands}
use Rattle.csn_treetext.proofs.ReadingFacts.{numeral_led, value_grows, value_closed}
use Rattle.csn_treetext.proofs.StopFacts.{quote_first, quote_stops}
use Rattle.csn_treetext.proofs.steps.value.Goals as goal

pub returns-in_default : goal.returns-in_default
returns-in_default c =
    quote_stops c.args.source.version c.args.source.text.now c.args.from c.args.width c.args.stack.now c.requires.within c.requires.comes
    (λ low. ap (λ m. grown m None (slice_index c.args.source.text.now c.args.from)) (sym c.greatest_of-most.ensures) ∙ c.in_default.ensures.none low)

pub close-requires-clause-stands : goal.close-requires-clause-stands
close-requires-clause-stands c =
    let (low, few, first) = c.in-Some.ensures.some in
    let (number, end) = c.digits-number.result in
    let text = c.args.source.text.now in
    let stack = c.args.stack.now in
    let e = numeral_led c.args.source.version text c.args.from _ _ _ end number (Value c.args.width)
    stack c.greatest_of-most.ensures (value_grows c.args.source.version c.args.width stack)
    (quote_first c.args.source.version text c.args.from c.args.width _ stack c.requires.comes low) first c.digits-number.ensures.leads in
    subst (λ t. Stands c.args.source.version text end (with_tree stack t)) (sym c.in_ok-tree.ensures)
    (value_closed c.args.source.version text end c.args.width number stack e
    (λ within. ap (λ m. grown m (Some number) (slice_index text end)) (sym c.greatest_of-most.ensures) ∙ c.digits-number.ensures.stops within))
