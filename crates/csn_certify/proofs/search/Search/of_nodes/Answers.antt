use Rattle.std.proofs.Common.{[], ◌∷◌, refl, arith}
use Rattle.csn_certify.proofs.Searching.{branch_at, found_at, none_more, known_some, known_none, nodes_end}
use Rattle.csn_certify.proofs.search.Search.of_nodes.Goals as goal

pub returns-in-Some : goal.returns-in-Some
returns-in-Some c =
    let d = c.args.self.now.desc.now in
    found_at d [] c.loop-node.node c.in-Some.conflict (branch_at [] refl) c.loop-node.invariant
    (known_some d (c.loop-node.node ∷ []) c.in_ok-conflict.field-0 c.in-Some.conflict c.in-Some.is c.in_ok-conflict.ensures)

pub loop-node-preserved : goal.loop-node-preserved
loop-node-preserved c =
    let d = c.args.self.now.desc.now in
    none_more d [] c.loop-node.node c.loop-node.invariant
    (known_none d (c.loop-node.node ∷ []) c.in_ok-conflict.field-0 c.in_default.is c.in_ok-conflict.ensures)

pub returns : goal.returns
returns c = nodes_end c.args.self.now.desc.now c.loop-node.node (omega (arith, c.loop-node-test.false, c.requires.count)) c.loop-node.invariant
