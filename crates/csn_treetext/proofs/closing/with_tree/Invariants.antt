use Rattle.std.proofs.Common.{◌≡◌, length}
use Rattle.csn_treetext.specs.reader.Machine.{HasRoom, with_tree}
use Rattle.csn_treetext.proofs.closing.with_tree.Given as goal

abbrev pub invariant-loop-alloc : goal.invariant-loop-alloc
invariant-loop-alloc l = (with_tree l.stack l.tree ≡ with_tree l.fn.stack l.fn.tree) × HasRoom l.stack

abbrev pub decreases-loop-alloc : goal.decreases-loop-alloc
decreases-loop-alloc l = length l.stack
