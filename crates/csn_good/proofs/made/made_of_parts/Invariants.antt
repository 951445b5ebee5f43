use Rattle.std.proofs.Common.{drop}
use Rattle.csn_good.specs.Patterns.{PartsPatterns}
use Rattle.csn_good.specs.Made.{AreMade}
use Rattle.csn_good.proofs.made.made_of_parts.Given as goal

abbrev pub invariant-loop-at : goal.invariant-loop-at
invariant-loop-at l = AreMade l.made.at.items (PartsPatterns l.c (drop l.at l.parts))
