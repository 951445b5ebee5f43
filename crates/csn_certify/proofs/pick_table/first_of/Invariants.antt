use Rattle.csn_certify.proofs.PickBlocks.{AreFilled}
use Rattle.csn_certify.proofs.pick_table.first_of.Given as goal

abbrev pub invariant-loop-place : goal.invariant-loop-place
invariant-loop-place l = AreFilled l.fn.entries l.first l.place
