use Rattle.std.proofs.Common.{◌++◌, ◌∷◌, [], true, map, length, refl, sym, ◌∙◌, ap, arith}
use Rattle.std.specs.Prelude.{nat_le}
use Rattle.csn_desc.specs.Spelled.{spelled}
use Rattle.csn_good.specs.Patterns.{mark_of}
use Rattle.csn_good.proofs.Making.{shorter}
use Rattle.csn_good.proofs.Covered.{spelled_on, spelled_size, take_until}
use Rattle.csn_good.proofs.leaf.literal.Goals as goal

pub loop-at-preserved : goal.loop-at-preserved
loop-at-preserved c = (
  ap (λ q. q.marks) c.push.ensures ∙ ap (λ l. l ++ c.mark_of.result ∷ []) c.loop-at.invariant.0
      ∙ sym (spelled_on c.args.run.now c.args.octet c.loop-at.at c.get.result.now c.mark_of.result c.get.ensures
      c.mark_of.ensures),
  ap (λ q. q.whole) c.push.ensures ∙ c.loop-at.invariant.1,
)

pub returns : goal.returns
returns c =
    let marks = map mark_of (spelled c.args.run.now c.args.octet) in
    let size = spelled_size c.args.run.now c.args.octet in
    let count = c.len-size.ensures.len in
    let over = c.loop-at-test.false in
    let auto = c.loop-at.auto in
    let all = take_until marks c.loop-at.at (omega arith) (λ less. omega arith) in
    shorter marks true (nat_le (length marks) 12) refl c.loop-at.pattern (c.loop-at.invariant.0 ∙ all)
    (c.loop-at.invariant.1 ∙ ap (λ q. q.whole) c.new-pattern.ensures ∙ ap (λ n. nat_le n 12) (count ∙ sym size))
