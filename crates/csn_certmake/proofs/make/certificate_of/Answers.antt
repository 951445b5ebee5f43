use Rattle.std.proofs.Common.{◌+◌, ◌∷◌, [], length, ap, ◌∙◌, length-append, arith, ◌≡◌, ◌<◌, List, subst}
use Rattle.csn_certmake.proofs.Rows.{row_read}
use Rattle.csn_certmake.proofs.Telling.{nodes_more}
use Rattle.csn_cert.specs.PatternV.{PatternV}
use Rattle.csn_certmake.specs.Rows.{IsInOrder}
use Rattle.csn_certmake.proofs.make.certificate_of.Goals as goal

pub loop-node-preserved : goal.loop-node-preserved
loop-node-preserved c =
    let rows = c.args.rows.now in
    let node = c.loop-node.node in
    let adds = c.in_ok-add_node.ensures in (
      ap length adds.added ∙ length-append c.loop-node.c (adds.node ∷ []) ∙ ap (λ n. n + 1) c.loop-node.invariant.0,
      nodes_more c.args.look.now c.args.reach.now rows node c.index-rows-node.result c.loop-node.c c.add_node.new.c
          c.loop-node.invariant.0 c.loop-node.invariant.1
          (row_read rows node c.index-rows-node.result (omega (arith, c.loop-node-test.true)) c.index-rows-node.is) adds,
    )

pub add_node-requires-clause-room : goal.add_node-requires-clause-room
add_node-requires-clause-room c = omega (arith, c.loop-node.invariant.0, c.loop-node-test.true, c.requires.few)

pub add_node-requires-clause-sets : goal.add_node-requires-clause-sets
add_node-requires-clause-sets c = omega (arith, c.loop-node-test.true, c.requires.sets)

pub add_node-requires-clause-reached : goal.add_node-requires-clause-reached
add_node-requires-clause-reached c = omega (arith, c.loop-node-test.true, c.requires.reached)

pub add_node-requires-clause-follow : goal.add_node-requires-clause-follow
add_node-requires-clause-follow c = omega (arith, c.loop-node-test.true, c.requires.follow)

pub add_node-requires-clause-ordered : goal.add_node-requires-clause-ordered
add_node-requires-clause-ordered c =
    let rows = c.args.rows.now in
    let node = c.loop-node.node in
    let low : node < length rows = omega (arith, c.loop-node-test.true) in
    subst (λ (row : List (List PatternV)). IsInOrder row) (row_read rows node c.index-rows-node.result low c.index-rows-node.is) (c.requires.ordered node low)

pub returns-clause-nodes : goal.returns-clause-nodes
returns-clause-nodes c =
    let all : c.loop-node.node ≡ length c.args.rows.now = omega (arith, c.loop-node-test.false, c.loop-node.auto.node-end) in
    record {
      same = c.loop-node.invariant.0 ∙ all;
      nodes = λ d known i low. c.loop-node.invariant.1 d known i (omega (arith, low, all));
    }
