use Rattle.std.proofs.Common.{◌≡◌, take, length, map, get_or, refl, sym, ◌∙◌, ap, inl, inr, subst, arith}
use Rattle.std.specs.Prelude.{Contains}
use Rattle.std.proofs.lemmas.Option.{slice_get-get_or}
use Rattle.std.proofs.lemmas.List.{length-map}
use Rattle.csn_good.specs.Numbers.{pattern_of}
use Rattle.csn_good.proofs.Making.{one_more, take_part, take_whole}
use Rattle.csn_good.proofs.Numbered.{maps_at}
use Rattle.csn_good.proofs.pattern_set.PatternSet.is_within.Goals as goal

pub loop-number-init : goal.loop-number-init
loop-number-init c = λ p there. absurd (omega (arith, there.1))

pub loop-number-preserved : goal.loop-number-preserved
loop-number-preserved c = λ p there.
    let items = c.as_slice-number-items.result.now in
    let all = map pattern_of items in
    let k = c.loop-number.number-index in
    let x = pattern_of (get_or items k 0) in
    let at = slice_get-get_or items k 0 c.loop-number-test.true in
    elim ((one_more (take k all) x p).0 (subst (λ l. Contains l p) (take_part all k x (maps_at items k (get_or items k 0) at)) there)) [
      | inl earlier ↦ c.loop-number.invariant p earlier
      | inr last ↦ subst (λ q. Contains c.args.other.now q) (sym last) (c.is_kept.ensures c.if-not-is_kept.false)
    ]

pub returns : goal.returns
returns c = λ holds p there.
    let items = c.as_slice-number-items.result.now in
    let over = c.loop-number-test.false in
    let size = length-map items pattern_of in
    let all = take_whole (map pattern_of items) c.loop-number.number-index (omega (arith, over, size))
    ∙ ap (λ l. map pattern_of l) c.as_slice-number-items.ensures.value ∙ c.in_ok-numbers.ensures.patterns in
    c.loop-number.invariant p (subst (λ l. Contains l p) (sym all) there)
