use Rattle.csn_vectors.specs.Lines.{NearLines}
use Rattle.csn_vectors.proofs.nears.push_all_changes.Given as goal

abbrev pub invariant-loop-example : goal.invariant-loop-example
invariant-loop-example l = NearLines l.plan l.fn.out.items l.out.items
