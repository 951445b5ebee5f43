use Rattle.std.proofs.Common.{List, inl, inr, refl, sym, subst}
use Rattle.csn_cert.specs.declared.pattern.Mark.TheVariants.{Zero, One}
use Rattle.csn_cert.specs.PatternV.{PatternV}
use Rattle.csn_good.proofs.ListsMeeting.{AreWith, back_from, either_bit}
use Rattle.csn_good.proofs.bit_by_bit.+lists_meet.Goals as goal

pub returns-then-by_zero : goal.returns-then-by_zero
returns-then-by_zero t c =
    let left = c.args.left.now in
    let right = c.args.right.now in
    let at = c.args.at in
    let own = subst (λ (l : List PatternV). AreWith left at Zero l) (sym c.as_slice.ensures.value) c.in_ok-zeros.ensures in
    let others = subst (λ (l : List PatternV). AreWith right at Zero l) (sym c.as_slice-2.ensures.value) c.in_ok-others.ensures in (
      (λ h. back_from left right c.as_slice.result.now c.as_slice-2.result.now at Zero (λ e. absurd (cc)) own others
          (c.in_ok-by_zero.ensures.0 c.if-by_zero.true)),
      (λ h. refl),
    )

pub returns : goal.returns
returns t c =
    let left = c.args.left.now in
    let right = c.args.right.now in
    let at = c.args.at in
    let long = c.in-None.ensures.none in
    let zeros = subst (λ (l : List PatternV). AreWith left at Zero l) (sym c.as_slice.ensures.value) c.in_ok-zeros.ensures in
    let others = subst (λ (l : List PatternV). AreWith right at Zero l) (sym c.as_slice-2.ensures.value) c.in_ok-others.ensures in
    let ones = subst (λ (l : List PatternV). AreWith left at One l) (sym c.as_slice-3.ensures.value) c.in_ok-ones.ensures in
    let more = subst (λ (l : List PatternV). AreWith right at One l) (sym c.as_slice-4.ensures.value) c.in_ok-more.ensures in (
      (λ h. back_from left right c.as_slice-3.result.now c.as_slice-4.result.now at One (λ e. absurd (cc)) ones more (c.in_ok-by_one.ensures.0 h)),
      (λ h. elim (either_bit left right c.as_slice.result.now c.as_slice-2.result.now c.as_slice-3.result.now
          c.as_slice-4.result.now at long.left_long long.right_long zeros others ones more h) [
            | inl low ↦ (let right = c.in_ok-by_zero.ensures.1 low in let wrong = c.if-by_zero.false in absurd (cc))
            | inr high ↦ c.in_ok-by_one.ensures.1 high
          ]),
    )
