use Rattle.std.proofs.Common.{◌≡◌, take}
use Rattle.csn_compat.proofs.leaf.have_same_symbols.Given as goal

-- the first symbols are equal
abbrev pub invariant-loop-at : goal.invariant-loop-at
invariant-loop-at l = take l.at l.run ≡ take l.at l.other
