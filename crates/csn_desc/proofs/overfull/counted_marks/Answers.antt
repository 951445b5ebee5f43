-- The marks grow node by node.
use Rattle.std.proofs.Common.{◌∙◌, sym, arith}
use Rattle.csn_desc.proofs.MarkFacts.{first_marks, next_marks, all_marks}
use Rattle.csn_desc.proofs.overfull.counted_marks.Goals as goal

pub loop-node-init : goal.loop-node-init
loop-node-init c = c.in_ok-marks.ensures.items_if_clones_equal (λ y e. e) ∙ first_marks c.args.nodes.now

pub loop-node-preserved : goal.loop-node-preserved
loop-node-preserved c =
    c.mark.ensures ∙ next_marks c.args.nodes.now c.loop-node.node-index c.node-item.result c.loop-node.marks.items
    c.loop-node-test.true (sym c.node-item.is) c.loop-node.invariant
    c.counted_field.result c.counted_field.ensures

pub returns : goal.returns
returns c = c.loop-node.invariant ∙ all_marks c.args.nodes.now c.loop-node.node-index (omega (arith, c.loop-node-test.false))
