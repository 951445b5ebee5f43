use Rattle.std.proofs.Common.{refl, arith}
use Rattle.std.proofs.lemmas.Option.{slice_get_within}
use Rattle.csn_good.proofs.keys.each_is_covered.Goals as goal

pub returns-then-not-part_is_covered : goal.returns-then-not-part_is_covered
returns-then-not-part_is_covered c = (
  (λ h. absurd (cc)),
  (λ h.
      let right = c.part_is_covered.ensures.1 (h c.loop-at.at c.get.result c.get.ensures) in
      let wrong = c.if-not-part_is_covered.true in
      absurd (cc)),
)

pub returns : goal.returns
returns c = (
  (λ h place part at.
      let inside = slice_get_within c.args.parts.now place part at in
      let long = c.len-at-end.ensures.len in
      let over = c.loop-at-test.false in
      c.loop-at.invariant place part (omega arith) at),
  (λ h. refl),
)
