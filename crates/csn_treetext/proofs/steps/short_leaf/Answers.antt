use Rattle.std.proofs.Common.{slice_index, Some, refl, sym, ap, subst, ◌∙◌}
use Rattle.csn_treetext.specs.reader.Mode.{Width}
use Rattle.csn_treetext.specs.reader.Numeral.{grown}
use Rattle.csn_treetext.specs.reader.Machine.{state}
use Rattle.csn_treetext.specs.reader.Reading.{Comes, Grows}
use Rattle.csn_treetext.proofs.ReadingFacts.{width_grows}
use Rattle.csn_treetext.proofs.StopFacts.{width_stops, width_ends}
use Rattle.csn_treetext.proofs.steps.short_leaf.Goals as goal

pub returns-then-not-stands_at : goal.returns-then-not-stands_at
returns-then-not-stands_at c =
    let grows = subst (λ m. Grows c.args.source.version m Width c.args.stack.now) (sym c.from.ensures) (width_grows c.args.source.version c.args.stack.now) in
    let first = subst (λ w. Comes c.args.source.version c.args.source.text.now c.args.from
    (state (Width w) c.args.stack.now)) (sym c.from-2.ensures) c.requires.comes in
    let e = c.digits-width.ensures.leads c.args.source.version Width c.args.stack.now grows first in
    width_stops c.args.source.version c.args.source.text.now c.digits-width.result.1 c.digits-width.result.0 c.args.stack.now c.digits-width.ensures.within e
    (λ low. ap (λ m. grown m (Some c.digits-width.result.0)
    (slice_index c.args.source.text.now c.digits-width.result.1)) (sym c.from.ensures)
    ∙ c.digits-width.ensures.stops low)
    (c.if-not-stands_at.ensures.no refl)

pub value-requires-clause-comes : goal.value-requires-clause-comes
value-requires-clause-comes c =
    let grows = subst (λ m. Grows c.args.source.version m Width c.args.stack.now) (sym c.from.ensures) (width_grows c.args.source.version c.args.stack.now) in
    let first = subst (λ w. Comes c.args.source.version c.args.source.text.now c.args.from
    (state (Width w) c.args.stack.now)) (sym c.from-2.ensures) c.requires.comes in
    let e = c.digits-width.ensures.leads c.args.source.version Width c.args.stack.now grows first in
    let (low, quote) = c.if-not-stands_at.ensures.yes refl in
    width_ends c.args.source.version c.args.source.text.now c.digits-width.result.1 c.digits-width.result.0 c.args.stack.now e low quote
