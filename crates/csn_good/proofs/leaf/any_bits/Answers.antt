use Rattle.std.proofs.Common.{◌++◌, ◌∷◌, [], true, replicate, length, refl, sym, ◌∙◌, ap, arith}
use Rattle.std.specs.Prelude.{nat_le}
use Rattle.csn_cert.specs.declared.pattern.Mark.TheVariants.{Any}
use Rattle.csn_good.proofs.Making.{shorter, take_part}
use Rattle.csn_good.proofs.Covered.{replicate_at, replicate_size, take_until}
use Rattle.csn_good.proofs.leaf.any_bits.Goals as goal

pub loop-at-preserved : goal.loop-at-preserved
loop-at-preserved c =
    let less = c.loop-at-test.true in (
      ap (λ q. q.marks) c.push.ensures ∙ ap (λ l. l ++ Any ∷ []) c.loop-at.invariant.0
          ∙ sym (take_part (replicate c.args.size Any) c.loop-at.at Any (replicate_at c.args.size c.loop-at.at Any
          (omega arith))),
      ap (λ q. q.whole) c.push.ensures ∙ c.loop-at.invariant.1,
    )

pub returns : goal.returns
returns c =
    let marks = replicate c.args.size Any in
    let size = replicate_size c.args.size Any in
    let over = c.loop-at-test.false in
    let auto = c.loop-at.auto in
    let all = take_until marks c.loop-at.at (omega arith) (λ less. omega arith) in
    shorter marks true (nat_le (length marks) 12) refl c.loop-at.pattern (c.loop-at.invariant.0 ∙ all)
    (c.loop-at.invariant.1 ∙ ap (λ q. q.whole) c.new-pattern.ensures ∙ ap (λ n. nat_le n 12) (sym size))
