use Rattle.std.proofs.Common.{◌≡◌, ℕ, length, get_or, refl, sym, ◌∙◌, ap, subst, arith, List, map}
use Rattle.std.specs.Prelude.{◌↔◌, Contains}
use Rattle.std.proofs.lemmas.Option.{slice_get-get_or}
use Rattle.std.proofs.lemmas.List.{length-map}
use Rattle.csn_cert.specs.PatternV.{PatternV}
use Rattle.csn_good.specs.Behind.{CutsSome}
use Rattle.csn_good.specs.Numbers.{pattern_of, AreNumbers}
use Rattle.csn_good.proofs.Conflicting.{at_contained}
use Rattle.csn_good.proofs.Making.{in_none, in_turn, next_sames}
use Rattle.csn_good.proofs.Behind.{cuts_none, cuts_on, cuts_done}
use Rattle.csn_good.proofs.Numbered.{maps_at}
use Rattle.csn_good.proofs.pattern_set.PatternSet.cut_to.Goals as goal

pub loop-number-init : goal.loop-number-init
loop-number-init c = λ p. (
  (λ h. absurd (in_none c.new-cut.ensures h)),
  (λ h. absurd (cuts_none c.args.room (map pattern_of c.as_slice-number-items.result.now) p h)),
)

pub cut_number-requires-clause-number : goal.cut_number-requires-clause-number
cut_number-requires-clause-number c =
    let items = c.as_slice-number-items.result.now in
    let at = slice_get-get_or items c.loop-number.number-index 0 c.loop-number-test.true in
    subst (λ (l : List ℕ). AreNumbers l) (sym c.as_slice-number-items.ensures.value) c.in_ok-numbers.ensures.numbers
    (get_or items c.loop-number.number-index 0) (at_contained items c.loop-number.number-index (get_or items c.loop-number.number-index 0) at)

pub loop-number-preserved : goal.loop-number-preserved
loop-number-preserved c = λ p.
    let items = c.as_slice-number-items.result.now in
    let at = slice_get-get_or items c.loop-number.number-index 0 c.loop-number-test.true in
    next_sames (c.in_ok-add_number.ensures p) (c.loop-number.invariant p)
    (cuts_on c.args.room c.loop-number.number-index (map pattern_of items) (pattern_of (get_or items c.loop-number.number-index 0)) p
    (maps_at items c.loop-number.number-index (get_or items c.loop-number.number-index 0) at))
    c.cut_number.ensures.pattern

pub returns : goal.returns
returns c = λ p.
    let items = c.as_slice-number-items.result.now in
    let over = c.loop-number-test.false in
    let size = length-map items pattern_of in
    let done = in_turn (c.loop-number.invariant p)
    (cuts_done c.args.room c.loop-number.number-index (map pattern_of items) p (omega (arith, over, size))) in
    subst (λ (l : List PatternV). Contains c.loop-number.cut p ↔ CutsSome c.args.room l p)
    (ap (λ l. map pattern_of l) c.as_slice-number-items.ensures.value ∙ c.in_ok-numbers.ensures.patterns) done
