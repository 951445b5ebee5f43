use Rattle.std.proofs.Common.{◌≡◌, ◌++◌, codes, map, take}
use Rattle.csn_explaining.specs.Wanted.{symbol_letter}
use Rattle.csn_explaining.proofs.wanted.push_literal.Given as goal

-- the letters so far are written
abbrev pub invariant-loop-at : goal.invariant-loop-at
invariant-loop-at l = l.out.items ≡ l.fn.out.items ++ (codes "literal " ++ map symbol_letter (take l.at l.run))
