use Rattle.std.proofs.Common.{refl, sym, ◌∙◌, arith}
use Rattle.csn_good.specs.ClaimedSets.{claims_of}
use Rattle.csn_good.proofs.Tailing.{nullable_on, nullable_not, nullable_done}
use Rattle.csn_good.proofs.sets.all_nullable.Goals as goal

pub returns-then-not-nullable : goal.returns-then-not-nullable
returns-then-not-nullable c = (
  (λ h. absurd (cc)),
  (λ h. absurd (nullable_not (claims_of c.args.c.now) c.args.parts.now c.loop-at.at c.get.result c.get.ensures
      (sym c.nullable.ensures ∙ c.if-not-nullable.true) c.loop-at.invariant h)),
)

pub loop-at-preserved : goal.loop-at-preserved
loop-at-preserved c =
    nullable_on (claims_of c.args.c.now) c.args.parts.now c.loop-at.at c.get.result c.get.ensures
    (sym c.nullable.ensures ∙ c.if-not-nullable.false) c.loop-at.invariant

pub returns : goal.returns
returns c = (
  (λ h. nullable_done (claims_of c.args.c.now) c.args.parts.now c.loop-at.at
      (omega (arith, c.loop-at-test.false, c.len-at-end.ensures.len)) c.loop-at.invariant),
  (λ h. refl),
)
