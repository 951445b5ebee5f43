use Rattle.std.proofs.Common.{◌+◌}
use Rattle.csn_treetext.proofs.Fitting.{FirstFit}
use Rattle.csn_treetext.proofs.bounds.+fits_inside.Given as goal

abbrev pub invariant-loop-at : goal.invariant-loop-at
invariant-loop-at l = FirstFit (l.round + 1) l.rows l.at
