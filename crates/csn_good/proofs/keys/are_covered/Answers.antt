use Rattle.std.proofs.Common.{◌≡◌, take, length, map, get_or, refl, sym, ◌∙◌, ap, inl, inr, subst, arith}
use Rattle.std.specs.Prelude.{Contains}
use Rattle.std.proofs.lemmas.Option.{slice_get-get_or}
use Rattle.std.proofs.lemmas.List.{length-map}
use Rattle.csn_good.specs.Patterns.{IsCovered}
use Rattle.csn_good.specs.Numbers.{pattern_of}
use Rattle.csn_good.proofs.Conflicting.{at_contained}
use Rattle.csn_good.proofs.Making.{one_more, take_part, take_whole}
use Rattle.csn_good.proofs.Numbered.{maps_at}
use Rattle.csn_good.proofs.keys.are_covered.Goals as goal

pub loop-number-init : goal.loop-number-init
loop-number-init c = λ p there. absurd (omega (arith, there.1))

pub returns-then-not-is_covered : goal.returns-then-not-is_covered
returns-then-not-is_covered c = (
  (λ h. absurd (cc)),
  (λ h.
      let items = c.as_slice-number-items.result.now in
      let k = c.loop-number.number-index in
      let at = slice_get-get_or items k 0 c.loop-number-test.true in
      let same = ap (λ l. map pattern_of l) c.as_slice-number-items.ensures.value ∙ c.in_ok-numbers.ensures.patterns in
      let there = subst (λ l. Contains l (pattern_of (get_or items k 0))) same
      (at_contained (map pattern_of items) k (pattern_of (get_or items k 0)) (maps_at items k (get_or items k 0) at)) in
      let covered = subst (λ q. IsCovered c.args.c.now c.args.i c.args.octet q) (sym c.pattern_of.ensures)
      (h (pattern_of (get_or items k 0)) there) in
      let right = c.is_covered.ensures.1 covered in
      let wrong = c.if-not-is_covered.true in
      absurd (cc)),
)

pub loop-number-preserved : goal.loop-number-preserved
loop-number-preserved c = λ p there.
    let items = c.as_slice-number-items.result.now in
    let all = map pattern_of items in
    let k = c.loop-number.number-index in
    let x = pattern_of (get_or items k 0) in
    let at = slice_get-get_or items k 0 c.loop-number-test.true in
    elim ((one_more (take k all) x p).0 (subst (λ l. Contains l p) (take_part all k x (maps_at items k (get_or items k 0) at)) there)) [
      | inl earlier ↦ c.loop-number.invariant p earlier
      | inr last ↦ subst (λ q. IsCovered c.args.c.now c.args.i c.args.octet q) (c.pattern_of.ensures ∙ sym last)
          (c.is_covered.ensures.0 c.if-not-is_covered.false)
    ]

pub returns : goal.returns
returns c = (
  (λ h p there.
      let items = c.as_slice-number-items.result.now in
      let over = c.loop-number-test.false in
      let size = length-map items pattern_of in
      let all = take_whole (map pattern_of items) c.loop-number.number-index (omega (arith, over, size))
      ∙ ap (λ l. map pattern_of l) c.as_slice-number-items.ensures.value ∙ c.in_ok-numbers.ensures.patterns in
      c.loop-number.invariant p (subst (λ l. Contains l p) (sym all) there)),
  (λ h. refl),
)
