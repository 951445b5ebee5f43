use Rattle.std.proofs.Common.{refl, arith}
use Rattle.csn_good.proofs.EndsTold.{ends_small}
use Rattle.csn_good.proofs.SetArms.{reached_small}
use Rattle.csn_good.proofs.following.keeps_follow.Goals as goal
use Rattle.csn_good.proofs.following.keeps_follow.Goals.{else-k-eq0-via-then-k-eq0+else-not-has_wanted, else-k-eq0-via-else-k-eq0}

pub returns : goal.returns
returns c = λ d. (
  (λ h. (
    (λ zero from o reached ends. elim c.else-k-eq0.branch [
      | else-k-eq0-via-then-k-eq0+else-not-has_wanted w ↦
          let begin = reached_small c.args.c.now c.requires.certificate 0 from reached in
          w.has_wanted.ensures.0 w.if-not-has_wanted.false o 2 (ends_small c.args.c.now 0 from o ends) (omega arith) (from, begin, ends) refl
      | else-k-eq0-via-else-k-eq0 w ↦ (let other = w.if-k-eq0.false in absurd (omega arith))
    ]),
    c.parts_have.ensures.0 h,
  )),
  (λ h. c.parts_have.ensures.1 h.1),
)
