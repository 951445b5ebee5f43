use Rattle.std.proofs.Common.{length}
use Rattle.csn_cert.proofs.Nodes.{NodesRead}
use Rattle.csn_cert.proofs.read.read_nodes.Given as goal

abbrev pub invariant-nodes : goal.invariant-nodes
invariant-nodes l = NodesRead l.fn.text l.nodes.items l.text

abbrev pub decreases-nodes : goal.decreases-nodes
decreases-nodes l = length l.text
