use Rattle.std.proofs.Common.{◌+◌, ◌<◌, ℕ, sym, subst, arith}
use Rattle.csn_good.specs.ClaimedSets.{claims_of}
use Rattle.csn_good.specs.declared.octets.Octets.{Octets}
use Rattle.csn_good.specs.Octets.{OctetsAre}
use Rattle.csn_good.specs.Tails.{StartsBehind}
use Rattle.csn_good.proofs.EndsTold.{collected, passed, all_collected}
use Rattle.csn_good.proofs.tail.Tail.begins_behind.Goals as goal
use Rattle.csn_good.proofs.tail.Tail.begins_behind.Goals.{then-starts_behind, else-starts_behind}

pub loop-octet-preserved : goal.loop-octet-preserved
loop-octet-preserved c =
    let P : ℕ → Type 0 = λ o. StartsBehind (claims_of c.args.c.now) c.args.self.now c.args.i o c.args.bit in
    let k = c.loop-octet.octet in
    let Q : Octets → Type 0 = λ s. OctetsAre s.has (λ o. P o × (o < k + 1)) in
    elim c.if-starts_behind.branch [
      | then-starts_behind w ↦ subst Q (sym w.begins-is)
          (collected c.loop-octet.begins.has w.with-begins.result.has P k c.loop-octet.invariant
          w.with-begins.ensures.members (c.starts_behind.ensures.0 w.if-starts_behind.true))
      | else-starts_behind w ↦ subst Q (sym w.begins-is) (passed c.loop-octet.begins.has P k c.loop-octet.invariant
          (λ h. let wrong = c.starts_behind.ensures.1 h in let right = w.if-starts_behind.false in absurd (cc)))
    ]

pub returns : goal.returns
returns c =
    all_collected c.loop-octet.begins.has (λ o. StartsBehind (claims_of c.args.c.now)
    c.args.self.now c.args.i o c.args.bit) c.loop-octet.octet (omega (arith, c.loop-octet-test.false))
    c.loop-octet.invariant
