use Rattle.std.proofs.Common.{◌≡◌, ◌+◌, ◌-◌, ◌*◌, ◌^◌, suc, sym, ap, ◌∙◌, arith}
use Rattle.std.proofs.Math.Nat.{pow-suc}
use Rattle.std.proofs.lemmas.Nat.{pow_pos}
use Rattle.csn_certify.proofs.CountedValues.{narrow}
use Rattle.csn_encode.proofs.Leaves.{number-next, no_number}
use Rattle.csn_encode.proofs.draft.Draft.value_from.Goals as goal

pub overflow_mul-value : goal.overflow_mul-value
overflow_mul-value c = omega (arith, narrow c.loop-at.value (c.loop-at.at - c.args.from) c.loop-at.invariant.1 (omega (arith, c.requires.few)))

pub overflow_add-value : goal.overflow_add-value
overflow_add-value c = omega (arith, narrow c.loop-at.value (c.loop-at.at - c.args.from) c.loop-at.invariant.1 (omega (arith, c.requires.few)))

pub loop-at-init : goal.loop-at-init
loop-at-init c = (sym (no_number c.args.self.now.bits c.args.from), pow_pos (c.args.from - c.args.from))

pub loop-at-preserved : goal.loop-at-preserved
loop-at-preserved c =
    let next = number-next c.args.self.now.bits c.args.from c.loop-at.at c.get.result (omega arith) (omega arith) (sym c.get.ensures.value) in
    let longer : c.loop-at.at + 1 - c.args.from ≡ suc (c.loop-at.at - c.args.from) = omega arith in
    let double : 2 ^ (c.loop-at.at + 1 - c.args.from) ≡ 2 ^ (c.loop-at.at - c.args.from) * 2 = ap (λ k. 2 ^ k) longer
    ∙ pow-suc 2 (c.loop-at.at - c.args.from) in (
      omega (arith, next, c.loop-at.invariant.0, c.from.ensures),
      omega (arith, double, c.loop-at.invariant.1, c.get.ensures.bit, c.from.ensures),
    )
