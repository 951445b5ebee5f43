use Rattle.std.proofs.Common.{refl}
use Rattle.csn_sample.proofs.WaysUnset.{unmet_marked, unmet_told}
use Rattle.csn_sample.proofs.covering.add_unset.Goals as goal
use Rattle.csn_sample.proofs.covering.add_unset.Goals.{then-not-has+in_ok-push, else-not-has}

pub loop-number-preserved : goal.loop-number-preserved
loop-number-preserved c = elim c.if-not-has.branch [
  | then-not-has+in_ok-push w ↦
      rw w.unmet-is (
      unmet_told c.args.node c.loop-number.number c.args.marks.now c.args.unmet.now.items c.loop-number.unmet.items _
      w.in_ok-push.ensures.items (λ marked. absurd (let set = w.if-not-has.ensures.1 marked in cc)) c.loop-number.invariant
      )
  | else-not-has w ↦
      rw w.unmet-is (
      unmet_marked c.args.node c.loop-number.number c.args.marks.now c.args.unmet.now.items c.loop-number.unmet.items
      (w.if-not-has.ensures.0 refl) c.loop-number.invariant
      )
]
