use Rattle.std.proofs.Common.{[]}
use Rattle.csn_certify.proofs.Searching.{NoneBelow}
use Rattle.csn_certify.proofs.search.Search.of_nodes.Given as goal

abbrev pub invariant-loop-node : goal.invariant-loop-node
invariant-loop-node l = NoneBelow l.self.desc.now [] l.node
