use Rattle.std.proofs.Common.{◌<◌, ℕ}
use Rattle.csn_good.specs.Covering.{MadeIsCoveredAt}
use Rattle.csn_good.proofs.keys.made_is_covered.Given as goal

abbrev pub invariant-loop-octet : goal.invariant-loop-octet
invariant-loop-octet l = (o : ℕ) → o < l.octet → MadeIsCoveredAt l.c l.i l.made.at.items o
