use Rattle.std.proofs.Common.{◌≡◌, take}
use Rattle.csn_places.proofs.origin.copy.Given as goal

abbrev pub invariant-loop-at : goal.invariant-loop-at
invariant-loop-at l = l.copied ≡ take l.at l.names
