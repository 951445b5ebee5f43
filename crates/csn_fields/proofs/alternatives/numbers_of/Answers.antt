use Rattle.std.proofs.Common.{◌≡◌, ◌∙◌, length, ap, arith, subst, Some}
use Rattle.csn_fields.specs.Numbers.{AreNumbers}
use Rattle.csn_desc.specs.declared.node.Node.TheVariants.{Choice}
use Rattle.csn_fields.proofs.NumberFacts.{numbers_same, numbers_next, parts_within}
use Rattle.csn_fields.proofs.alternatives.numbers_of.Goals as goal
use Rattle.csn_fields.proofs.alternatives.numbers_of.Goals.{in-Choice, in_default}

pub number_parts-requires : goal.number_parts-requires
number_parts-requires g c = λ k part get.
    omega (
      arith,
      parts_within c.args.plan.now c.loop-i.i k part (Choice c.in-Choice.parts)
          c.len-count.ensures.description (c.node.ensures.node ∙ ap Some c.in-Choice.is) get,
      c.loop-i.invariant.all,
    )

pub loop-i-preserved : goal.loop-i-preserved
loop-i-preserved g c = elim c.match-node.branch [
  | in-Choice w ↦ rw w.numbers-is (numbers_next c.args.plan.now c.loop-i.i w.in-Choice.parts c.loop-i.numbers.items _ c.len-count.ensures.description
      (c.node.ensures.node ∙ ap Some w.in-Choice.is) w.number_parts.ensures.len w.number_parts.ensures.numbered c.loop-i.invariant)
  | in_default w ↦ rw w.numbers-is (numbers_same c.args.plan.now c.loop-i.i c.node.result.now c.loop-i.numbers.items
      c.node.ensures.node w.in_default.not-Choice c.loop-i.invariant)
]

pub returns : goal.returns
returns g c =
    let all : c.loop-i.i ≡ length c.args.plan.now.nodes = omega (arith, c.loop-i-test.false, c.loop-i.auto.i-end, c.len-count.ensures.len) in
    subst (λ n. AreNumbers c.args.plan.now n c.loop-i.numbers.items) all c.loop-i.invariant
