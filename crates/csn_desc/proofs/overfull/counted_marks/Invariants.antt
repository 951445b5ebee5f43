-- The marks are those of the nodes so far.
use Rattle.std.proofs.Common.{◌≡◌}
use Rattle.csn_desc.proofs.MarkFacts.{marks_of}
use Rattle.csn_desc.proofs.overfull.counted_marks.Given as goal

abbrev pub invariant-loop-node : goal.invariant-loop-node
invariant-loop-node l = l.marks.items ≡ marks_of l.nodes l.node-index
