use Rattle.std.proofs.Common.{ℕ, ◌≡◌, refl, sym, inl, inr, subst, arith, Some, slice_get}
use Rattle.std.proofs.lemmas.Bool.Decides.{eqb_tells}
use Rattle.std.proofs.lemmas.Option.{slice_get_within}
use Rattle.csn_good.specs.Apart.{IsApart}
use Rattle.csn_good.proofs.Conflicting.{item_at}
use Rattle.csn_good.proofs.apart.choice_is_apart.Goals as goal

pub returns-then-not-branch : goal.returns-then-not-branch
returns-then-not-branch c = (
  (λ h. absurd (cc)),
  (λ h.
      let long = c.len-place-end.ensures.len in
      let less = c.loop-place-test.true in
      let there = item_at c.args.parts.now c.loop-place.place (omega arith) in
      let right = (c.in_ok-alternative_is_apart.ensures there.0 there.1).1 (h c.loop-place.place there.0 there.1) in
      let wrong = c.if-not-branch.true in
      absurd (cc)),
)

pub loop-place-preserved : goal.loop-place-preserved
loop-place-preserved c = λ place part less at.
    let Q : ℕ → Type 0 = λ n. slice_get c.args.parts.now n ≡ Some part → IsApart c.args.desc.now c.args.c.now c.args.i c.args.parts.now n part in
    elim (eqb_tells place c.loop-place.place) [
      | inl same ↦ subst Q (sym same.1) (λ here. (c.in_ok-alternative_is_apart.ensures part here).0 c.if-not-branch.false) at
      | inr apart ↦ (let differ = apart.1 in c.loop-place.invariant place part (omega arith) at)
    ]

pub returns : goal.returns
returns c = (
  (λ h place part at. c.loop-place.invariant place part (let inside =
      slice_get_within c.args.parts.now place part at in let long = c.len-place-end.ensures.len in let over =
      c.loop-place-test.false in omega arith) at),
  (λ h. refl),
)
