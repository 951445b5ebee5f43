use Rattle.std.proofs.Common.{◌<◌, ◌≤◌, ◌++◌, List, ℕ, length, sym, ap, ◌∙◌, subst, arith, append-nil}
use Rattle.std.proofs.lemmas.Result.{err_from_is_err_and}
use Rattle.csn_cert.specs.CertificateV.{NodeV, IsNode}
use Rattle.csn_cert.specs.CertificateText.{node_text, nodes_text}
use Rattle.csn_cert.specs.Reading.{Stands, Lacks, BeginsNoPosition}
use Rattle.csn_cert.proofs.Refusals.{passed}
use Rattle.csn_cert.proofs.Nodes.{NodesRead, no_nodes_read, node_read, no_more_nodes, no_next_node}
use Rattle.csn_cert.proofs.read.read_nodes.Goals as goal

pub returns-in_err-node-clause-refused : goal.returns-in_err-node-clause-refused
returns-in_err-node-clause-refused c =
    let p = err_from_is_err_and c.from_residual.result c.from_residual.ensures.1 in
    passed c.from_residual.result p.0 c.in_err-node.field-0.0 p.1 p.2 (λ never.
    no_next_node c.args.text.now c.nodes.nodes.items c.nodes.text c.nodes.invariant c.nodes-test.ensures.no
    (subst (λ (i : ℕ). Lacks IsNode BeginsNoPosition (node_text i) c.nodes.text)
    (c.len-in-nodes.ensures ∙ c.nodes.nodes.ok.0) never)) c.in_err-node.ensures.refused

pub nodes-init : goal.nodes-init
nodes-init c = subst (λ (ns : List NodeV). NodesRead c.args.text.now ns c.args.text.now) (sym c.new-nodes.ensures.items) (no_nodes_read c.args.text.now)

pub nodes-preserved : goal.nodes-preserved
nodes-preserved c =
    let count = c.len.ensures ∙ c.nodes.nodes.ok.0 in
    let room : length c.nodes.nodes.items < 16384 = omega (arith, count, c.if-len.false, c.nodes.invariant.are.few) in
    subst (λ (ns : List NodeV). NodesRead c.args.text.now ns c.read_node.new.text) (sym c.in_ok-push.ensures.items)
    (node_read c.args.text.now c.nodes.nodes.items c.nodes.text c.read_node.new.text c.in_ok-node.node c.nodes.invariant room
    (subst (λ (i : ℕ). Stands IsNode BeginsNoPosition (node_text i) c.nodes.text c.in_ok-node.node
    c.read_node.new.text) (c.len-in-nodes.ensures ∙ c.nodes.nodes.ok.0) c.in_ok-node.ensures.ok))

pub returns-then-len-clause-refused : goal.returns-then-len-clause-refused
returns-then-len-clause-refused c =
    let count = c.len.ensures ∙ c.nodes.nodes.ok.0 in
    let full : 16384 ≤ length c.nodes.nodes.items = omega (arith, count, c.if-len.true) in
    no_more_nodes c.args.text.now c.nodes.nodes.items c.nodes.text c.nodes.invariant full c.nodes-test.ensures.no

pub returns-clause-ok : goal.returns-clause-ok
returns-clause-ok c =
    c.nodes.invariant.spelled ∙ ap (λ l. nodes_text 0 c.nodes.nodes.items ++ l) c.nodes-test.ensures.yes ∙ append-nil (nodes_text 0 c.nodes.nodes.items)
