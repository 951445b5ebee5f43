use Rattle.std.proofs.Common.{◌-◌, List, sym, subst, arith, ◌∙◌}
use Rattle.std.proofs.Math.ListN.{length-set}
use Rattle.csn_desc.specs.Nodes.{parts_of}
use Rattle.csn_look.specs.declared.node_sets.NodeSets.{NodeSets}
use Rattle.csn_look.specs.NodeSets.{AreKnown}
use Rattle.csn_look.proofs.Basics.Spanned.{parts_known, known_more}
use Rattle.csn_look.proofs.Sets.LeavesTell.{node_at}
use Rattle.csn_look.proofs.look.sets_of.Goals as goal

pub node-node-requires : goal.node-node-requires
node-node-requires c =
    let d = c.args.desc.now in
    let node = c.node.result.now in
    subst (λ (known : List NodeSets). AreKnown d known (parts_of node)) (sym c.as_slice.ensures.value)
    (parts_known d (c.loop-i.i - 1) node c.loop-i.sets.items c.len-count.ensures.description c.node.ensures
    (λ j low high. c.loop-i.invariant.1 j (omega (arith, low)) high))

pub loop-i-preserved : goal.loop-i-preserved
loop-i-preserved c =
    let d = c.args.desc.now in
    let items = c.loop-i.sets.items in
    let sets = c.node-node.result in
    let at = c.loop-i.i - 1 in (
      length-set items at sets ∙ c.loop-i.invariant.0,
      known_more d at items sets c.loop-i.invariant.0 (node_at d at c.node.result.now sets c.node.ensures c.node-node.ensures)
          (λ j low high. c.loop-i.invariant.1 j (omega (arith, low)) high),
    )

pub returns : goal.returns
returns c =
    record {
      same = c.loop-i.invariant.0;
      known = λ j high. c.loop-i.invariant.1 j (omega arith) high;
    }
