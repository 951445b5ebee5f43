use Rattle.std.proofs.Common.{ℕ, ◌+◌, subst, sym, refl}
use Rattle.csn_look.proofs.Tables.MarksHalved.{IsHalved, none_halved, zero_halved, halved_one, halved_none}
use Rattle.csn_look.proofs.marks.halved.Goals as goal
use Rattle.csn_look.proofs.marks.halved.Goals.{then-marks-at-ne0, else-marks-at-ne0}

pub returns-then-marks-eq0-clause-bits : goal.returns-then-marks-eq0-clause-bits
returns-then-marks-eq0-clause-bits c = λ k low. zero_halved c.args.marks 0 k c.if-marks-eq0.true refl

pub loop-at-init : goal.loop-at-init
loop-at-init c = none_halved c.args.marks

pub loop-at-preserved : goal.loop-at-preserved
loop-at-preserved c =
    let P : ℕ → Type 0 = λ half. IsHalved c.args.marks (c.loop-at.at + 1) half in
    elim c.if-marks-at-ne0.branch [
      | then-marks-at-ne0 w ↦ subst P (sym w.half-is)
          (halved_one c.args.marks c.loop-at.at c.loop-at.half c.loop-at-test.true w.if-marks-at-ne0.true
          c.loop-at.invariant)
      | else-marks-at-ne0 w ↦ subst P (sym w.half-is)
          (halved_none c.args.marks c.loop-at.at c.loop-at.half c.loop-at-test.true w.if-marks-at-ne0.false
          c.loop-at.invariant)
    ]
