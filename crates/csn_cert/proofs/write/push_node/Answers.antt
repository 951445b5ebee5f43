use Rattle.std.proofs.Common.{◌++◌, ap, sym, ◌∙◌, flat_map, take, length, arith}
use Rattle.std.proofs.lemmas.List.{flat_map_more, take_all}
use Rattle.csn_cert.specs.CertificateText.{position_text}
use Rattle.csn_cert.proofs.Appending.{appended}
use Rattle.csn_cert.proofs.Finding.{read_item}
use Rattle.csn_cert.proofs.Patterns.{take-next}
use Rattle.csn_cert.proofs.write.push_node.Goals as goal

pub loop-position-preserved : goal.loop-position-preserved
loop-position-preserved c =
    let before = c.push_node_line.new.out.items in
    let same = c.deref-position-items.ensures.value ∙ ap (λ n. n.positions) c.node.view_is in
    let there = read_item c.deref-position-items.result.now c.args.node.now.positions c.loop-position.position-index
    c.position-item.result same c.loop-position-test.true c.position-item.is in
    c.in_ok-push_position.ensures ∙ ap (λ l. l ++ position_text c.position-item.result) c.loop-position.invariant
    ∙ flat_map_more position_text before (take c.loop-position.position-index c.args.node.now.positions) c.position-item.result
    ∙ ap (λ ps. before ++ flat_map position_text ps) (sym (take-next c.args.node.now.positions c.loop-position.position-index c.position-item.result there))

pub returns : goal.returns
returns c =
    let before = c.args.out.now.items in
    let same = c.deref-position-items.ensures.value ∙ ap (λ n. n.positions) c.node.view_is in
    let all = take_all c.loop-position.position-index c.args.node.now.positions (omega (arith, c.loop-position-test.false, ap length same)) in
    let positions = c.loop-position.invariant ∙ ap (λ ps. c.push_node_line.new.out.items ++ flat_map position_text ps) all in
    appended before _ _ _ _ c.in_ok-push_node_line.ensures positions
