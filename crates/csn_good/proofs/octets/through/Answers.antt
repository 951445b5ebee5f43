use Rattle.std.proofs.Common.{◌+◌, ◌<◌, ℕ, IsTrue, sym, subst, arith}
use Rattle.csn_good.specs.ClaimedSets.{claims_of}
use Rattle.csn_good.specs.declared.octets.Octets.{Octets}
use Rattle.csn_good.specs.Octets.{OctetsAre, OfSome}
use Rattle.csn_good.proofs.EndsTold.{none_yet, collected, passed, all_collected, denied}
use Rattle.csn_good.proofs.octets.through.Goals as goal
use Rattle.csn_good.proofs.octets.through.Goals.{then-leads_to, else-leads_to}

pub leads_to-requires-clause-end : goal.leads_to-requires-clause-end
leads_to-requires-clause-end c = omega (arith, c.loop-end-test.true)

pub loop-end-init : goal.loop-end-init
loop-end-init c = none_yet c.none-ends.result.has
    (λ e. OfSome c.args.from.now.has (λ o. IsTrue ((claims_of c.args.c.now).ends c.args.i o e))) c.none-ends.ensures

pub loop-end-preserved : goal.loop-end-preserved
loop-end-preserved c =
    let P : ℕ → Type 0 = λ e. OfSome c.args.from.now.has (λ o. IsTrue ((claims_of c.args.c.now).ends c.args.i o e)) in
    let k = c.loop-end.end in
    let Q : Octets → Type 0 = λ s. OctetsAre s.has (λ o. P o × (o < k + 1)) in
    elim c.if-leads_to.branch [
      | then-leads_to w ↦ subst Q (sym w.ends-is)
          (collected c.loop-end.ends.has w.with-ends.result.has P k c.loop-end.invariant w.with-ends.ensures.members
          (c.leads_to.ensures.0 w.if-leads_to.true))
      | else-leads_to w ↦ subst Q (sym w.ends-is) (passed c.loop-end.ends.has P k c.loop-end.invariant (λ h. denied c.leads_to.ensures w.if-leads_to.false h))
    ]

pub returns : goal.returns
returns c =
    all_collected c.loop-end.ends.has
    (λ e. OfSome c.args.from.now.has (λ o. IsTrue ((claims_of c.args.c.now).ends c.args.i o e))) c.loop-end.end
    (omega (arith, c.loop-end-test.false)) c.loop-end.invariant
