use Rattle.std.proofs.Common.{arith, length, sym, ◌∙◌}
use Rattle.std.proofs.lemmas.List.Sums.{position_or_len_is}
use Rattle.csn_reasons.specs.Spots.{ends_line}
use Rattle.csn_reasons.proofs.spot.line_end.Goals as goal

pub returns-then-ends_line : goal.returns-then-ends_line
returns-then-ends_line c =
    sym (position_or_len_is ends_line c.args.text.now c.loop-at.at 0 (omega arith) c.loop-at.invariant
    (λ within. sym c.ends_line.ensures ∙ c.if-ends_line.true))

pub returns : goal.returns
returns c =
    sym (position_or_len_is ends_line c.args.text.now (length c.args.text.now) 0 (omega arith)
    (λ k below. c.loop-at.invariant k (omega (arith, below))) (λ within. absurd (omega (arith, within))))
