use Rattle.std.proofs.Common.{◌≡◌, ℕ, ◌+◌, ◌%◌, length, List, map, get_or, refl, sym, ◌∙◌, ap, subst, arith, slice_get}
use Rattle.std.specs.Prelude.{◌↔◌}
use Rattle.std.proofs.lemmas.Result.{on_ok_weaker}
use Rattle.std.proofs.lemmas.Option.{slice_get-get_or}
use Rattle.std.proofs.lemmas.List.{length-map}
use Rattle.csn_cert.specs.PatternV.{PatternV}
use Rattle.csn_good.specs.Behind.{JoinsOne}
use Rattle.csn_good.specs.Made.{MadeAt}
use Rattle.csn_good.specs.Numbers.{pattern_of, AreNumbers}
use Rattle.csn_good.proofs.Conflicting.{item_at as made_there, at_contained}
use Rattle.csn_good.proofs.Making.{either_as, flipped, in_turn, next_joins, joins_on, joins_whole, joins_made, makes_only_itself}
use Rattle.csn_good.proofs.Numbered.{maps_at}
use Rattle.csn_good.proofs.made.Made.add_made.Goals as goal

pub returns-then-not-whole : goal.returns-then-not-whole
returns-then-not-whole c =
    on_ok_weaker c.add.result
    (λ added p. either_as (added p) (makes_only_itself (MadeAt c.args.self.now.at.items) c.args.first p c.args.octet
    (sym c.whole.ensures ∙ c.if-not-whole.true)))
    c.add.ensures

pub joined-requires-clause-rest : goal.joined-requires-clause-rest
joined-requires-clause-rest c =
    let items = c.as_slice-rest-items.result.now in
    let at = slice_get-get_or items c.loop-rest.rest-index 0 c.loop-rest-test.true in
    subst (λ (l : List ℕ). AreNumbers l) (sym c.as_slice-rest-items.ensures.value) c.in_ok-numbers.ensures.numbers
    (get_or items c.loop-rest.rest-index 0) (at_contained items c.loop-rest.rest-index (get_or items c.loop-rest.rest-index 0) at)

pub loop-rest-preserved : goal.loop-rest-preserved
loop-rest-preserved c = λ p.
    let items = c.as_slice-rest-items.result.now in
    let at = slice_get-get_or items c.loop-rest.rest-index 0 c.loop-rest-test.true in
    next_joins (c.in_ok-add_number.ensures p) (c.loop-rest.invariant p)
    (joins_on c.args.first (pattern_of (get_or items c.loop-rest.rest-index 0)) p (map pattern_of items) c.loop-rest.rest-index
    (maps_at items c.loop-rest.rest-index (get_or items c.loop-rest.rest-index 0) at))
    c.joined.ensures.pattern

pub returns : goal.returns
returns c = λ p.
    let items = c.as_slice-rest-items.result.now in
    let these = map pattern_of items in
    let made = c.args.self.now.at.items in
    let place = ap (λ n. (c.args.octet + n) % 8) c.len.ensures.count in
    let later = made_there made ((c.args.octet + length c.args.first.marks) % 8) (omega (arith, c.requires.made)) in
    let own = later.1 in
    let over = c.loop-rest-test.false in
    let size = length-map items pattern_of in
    let are = ap (λ l. map pattern_of l) c.as_slice-rest-items.ensures.value ∙ c.in_ok-numbers.ensures.patterns in
    let same = c.rests-rests.ensures later.0 c.args.first p (ap (λ n. slice_get made n) place ∙ own) (sym c.len.ensures.count) in
    either_as (c.loop-rest.invariant p) (flipped (in_turn
    (joins_whole c.args.first p these c.loop-rest.rest-index (omega (arith, over, size)))
    (in_turn
    (subst (λ (l : List PatternV). JoinsOne c.args.first l p ↔ JoinsOne c.args.first later.0 p) (sym are) same)
    (joins_made made c.args.first p c.args.octet later.0 (sym c.whole.ensures ∙ c.if-not-whole.false) own)))
    )
