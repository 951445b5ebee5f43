use Rattle.std.proofs.Common.{◌≡◌, ◌+◌, ◌++◌, ap, sym, ◌∙◌, take, length, arith, append_assoc}
use Rattle.std.proofs.lemmas.List.{take_all, length-take-le}
use Rattle.csn_cert.specs.CertificateText.{node_text, nodes_text}
use Rattle.csn_cert.specs.CertificateV.{IsNode}
use Rattle.csn_cert.proofs.Appending.{nodes_text-push}
use Rattle.csn_cert.proofs.Finding.{read_item}
use Rattle.csn_cert.proofs.Growth.{All-get}
use Rattle.csn_cert.proofs.Patterns.{take-next}
use Rattle.csn_cert.proofs.write.push_nodes.Goals as goal

pub overflow_cast-number : goal.overflow_cast-number
overflow_cast-number c = omega (arith, c.loop-number-test.true, ap length c.claims-node-items.ensures, c.requires.few)

pub push_node-requires : goal.push_node-requires
push_node-requires c =
    All-get IsNode c.args.c.now c.loop-number.number c.node-item.result c.requires.nodes
    (read_item c.claims-node-items.result.now c.args.c.now c.loop-number.number c.node-item.result
    c.claims-node-items.ensures c.loop-number-test.true c.node-item.is)

pub loop-number-preserved : goal.loop-number-preserved
loop-number-preserved c =
    let before = c.args.out.now.items in
    let number = c.loop-number.number in
    let front = take number c.args.c.now in
    let there = read_item c.claims-node-items.result.now c.args.c.now number c.node-item.result
    c.claims-node-items.ensures c.loop-number-test.true c.node-item.is in
    let within = ap length c.claims-node-items.ensures in
    let count : 0 + length front ≡ number = omega (arith, length-take-le number c.args.c.now (omega (arith, within, c.loop-number-test.true))) in
    c.in_ok-push_node.ensures ∙ ap (λ l. l ++ node_text number c.node-item.result) c.loop-number.invariant
    ∙ append_assoc before (nodes_text 0 front) (node_text number c.node-item.result)
    ∙ ap (λ i. before ++ (nodes_text 0 front ++ node_text i c.node-item.result)) (sym count)
    ∙ ap (λ l. before ++ l) (sym (nodes_text-push 0 front c.node-item.result))
    ∙ ap (λ ns. before ++ nodes_text 0 ns) (sym (take-next c.args.c.now number c.node-item.result there))

pub returns : goal.returns
returns c =
    let all = take_all c.loop-number.number c.args.c.now (omega (arith, c.loop-number-test.false, ap length c.claims-node-items.ensures)) in
    c.loop-number.invariant ∙ ap (λ ns. c.args.out.now.items ++ nodes_text 0 ns) all
