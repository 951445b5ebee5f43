use Rattle.std.proofs.Common.{◌≡◌, ◌∙◌, sym, ap, subst, arith, length, Some}
use Rattle.std.proofs.lemmas.List.{length-set}
use Rattle.csn_fields.specs.Numbers.{Numbered}
use Rattle.csn_fields.proofs.NumberFacts.{number_next}
use Rattle.csn_fields.proofs.alternatives.number_parts.Goals as goal

pub loop-k-preserved : goal.loop-k-preserved
loop-k-preserved c =
    let there = c.get.ensures ∙ ap Some (sym c.from.ensures) in (
      length-set _ _ _ ∙ c.loop-k.invariant.0,
      λ i. number_next c.args.parts.now c.loop-k.k c.from.result c.args.numbers.now.items c.loop-k.numbers.items there
          (omega (arith, c.requires c.loop-k.k c.from.result there, c.loop-k.invariant.0)) i (c.loop-k.invariant.1 i),
    )

pub returns-clause-numbered : goal.returns-clause-numbered
returns-clause-numbered c =
    let all : c.loop-k.k ≡ length c.args.parts.now = omega (arith, c.loop-k-test.false, c.loop-k.auto.k-end, c.len-k-end.ensures.len) in
    λ i. subst (λ n. Numbered c.args.parts.now n c.args.numbers.now.items c.loop-k.numbers.items i) all (c.loop-k.invariant.1 i)
