use Rattle.std.proofs.Common.{inl, inr, sym, subst, arith}
use Rattle.std.proofs.lemmas.Bool.Decides.{eqb_tells}
use Rattle.csn_good.specs.Covering.{MadeIsCoveredAt}
use Rattle.csn_good.proofs.keys.made_is_covered.Goals as goal

pub loop-octet-preserved : goal.loop-octet-preserved
loop-octet-preserved c = λ o less.
    elim (eqb_tells o c.loop-octet.octet) [
      | inl same ↦ subst (λ k. MadeIsCoveredAt c.args.c.now c.args.i c.args.made.now.at.items k) (sym same.1)
          (c.in_ok-covered.ensures.0 c.if-not-covered.false)
      | inr apart ↦ (let differ = apart.1 in c.loop-octet.invariant o (omega arith))
    ]
