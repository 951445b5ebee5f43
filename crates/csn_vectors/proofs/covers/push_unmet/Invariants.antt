use Rattle.std.proofs.Common.{take}
use Rattle.csn_vectors.specs.Lines.{UnmetLines}
use Rattle.csn_vectors.proofs.covers.push_unmet.Given as goal

abbrev pub invariant-loop-way : goal.invariant-loop-way
invariant-loop-way l = UnmetLines l.fn.out.items (take l.way-index l.unmet) l.out.items
