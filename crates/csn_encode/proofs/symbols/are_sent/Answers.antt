use Rattle.std.proofs.Common.{refl, sym, ◌∙◌, arith}
use Rattle.csn_encode.proofs.Leaves.{all_sent, each_sent}
use Rattle.csn_encode.proofs.symbols.are_sent.Goals as goal

pub returns-then-get-bit : goal.returns-then-get-bit
returns-then-get-bit c = (
  λ sent. absurd (cc),
  λ all. absurd
      (c.if-get-bit.true (c.get.ensures.value ∙ each_sent c.args.symbol c.args.bits.now c.args.place c.loop-at.at
      all (omega arith) ∙ sym c.bit.ensures.value)),
)

pub returns : goal.returns
returns c = (λ sent. all_sent c.args.symbol c.args.bits.now c.args.place (λ k less. c.loop-at.invariant k (omega arith)), λ all. refl)
