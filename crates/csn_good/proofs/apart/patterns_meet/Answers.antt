use Rattle.std.proofs.Common.{refl, inl, inr, sym, subst, arith}
use Rattle.std.proofs.lemmas.Bool.Decides.{eqb_tells}
use Rattle.std.proofs.lemmas.Option.{slice_get_within}
use Rattle.csn_good.specs.Apart.{MarksMeet}
use Rattle.csn_good.proofs.Conflicting.{one_item}
use Rattle.csn_good.proofs.apart.patterns_meet.Goals as goal
use Rattle.csn_good.proofs.apart.patterns_meet.Goals.{else-at-len-via-then-at-len+else-not-marks_meet, else-at-len-via-else-at-len}

pub loop-at-preserved : goal.loop-at-preserved
loop-at-preserved c = λ k a b less at_a at_b.
    elim (eqb_tells k c.loop-at.at) [
      | inl same ↦
          elim c.else-at-len.branch [
            | else-at-len-via-then-at-len+else-not-marks_meet w ↦
                let is_a = one_item c.args.left.marks same.1 at_a w.get.ensures in
                let is_b = one_item c.args.right.marks same.1 at_b w.get-then-at-len.ensures in
                subst (λ x. MarksMeet x b) (sym is_a) (subst (λ y. MarksMeet w.get.result y) (sym is_b) (w.marks_meet.ensures.0 w.if-not-marks_meet.false))
            | else-at-len-via-else-at-len w ↦
                (let inside = slice_get_within c.args.right.marks k b at_b in
                let over = w.if-at-len.false in
                let count = c.len.ensures.count in
                let place = same.1 in
                absurd (omega arith))
          ]
      | inr apart ↦ (let differ = apart.1 in c.loop-at.invariant k a b (omega arith) at_a at_b)
    ]

pub returns : goal.returns
returns c = (
  (λ h. record {
    marks = λ k a b at_a at_b. c.loop-at.invariant k a b (let inside =
        slice_get_within c.args.left.marks k a at_a in let over = c.loop-at-test.false in let count =
        c.len-at-end.ensures.count in omega arith) at_a at_b;
  }),
  (λ h. refl),
)
