use Rattle.std.proofs.Common.{◌≡◌, refl, inl, inr, sym, ap, subst, arith, slice_get}
use Rattle.std.proofs.lemmas.Bool.Decides.{eqb_tells}
use Rattle.std.proofs.lemmas.Option.{slice_get_within}
use Rattle.csn_good.specs.declared.following.Around.TheVariants.{Alone}
use Rattle.csn_good.specs.Wanted.{HasWanted}
use Rattle.csn_good.specs.ClaimedSets.{claims_of}
use Rattle.csn_good.proofs.EndsTold.{ends_small}
use Rattle.csn_good.proofs.SetArms.{reached_small, starts_small}
use Rattle.csn_good.proofs.FollowArms.{are_counted, ends_reach, choice_have}
use Rattle.csn_good.proofs.following.each_has.Goals as goal

pub returns-then-not-has_wanted : goal.returns-then-not-has_wanted
returns-then-not-has_wanted c = (
  (λ h. absurd (cc)),
  (λ h. let right =
      c.has_wanted.ensures.1
      ((choice_have (claims_of c.args.c.now) (ends_small c.args.c.now) (starts_small c.args.c.now)
      (are_counted c.args.c.now) (reached_small c.args.c.now c.requires.certificate) (ends_reach c.args.c.now)
      c.args.k c.args.parts.now).0 h c.loop-at.at c.get.result c.get.ensures) in
      let wrong = c.if-not-has_wanted.true in absurd (cc)),
)

pub loop-at-preserved : goal.loop-at-preserved
loop-at-preserved c = λ place i less at.
    elim (eqb_tells place c.loop-at.at) [
      | inl same ↦
          let here = ap (λ p. slice_get c.args.parts.now p) same.1 in
          let got = c.get.ensures in
          let part : i ≡ c.get.result = cc in
          subst (λ q. HasWanted (claims_of c.args.c.now) c.args.k q Alone) (sym part) (c.has_wanted.ensures.0 c.if-not-has_wanted.false)
      | inr apart ↦ (let differ = apart.1 in c.loop-at.invariant place i (omega arith) at)
    ]

pub returns : goal.returns
returns c = (
  (λ h. (choice_have (claims_of c.args.c.now) (ends_small c.args.c.now) (starts_small c.args.c.now)
      (are_counted c.args.c.now) (reached_small c.args.c.now c.requires.certificate) (ends_reach c.args.c.now)
      c.args.k c.args.parts.now).1 (λ place i at. c.loop-at.invariant place i (let inside =
      slice_get_within c.args.parts.now place i at in let long = c.len-at-end.ensures.len in let over =
      c.loop-at-test.false in omega arith) at)),
  (λ h. refl),
)
