use Rattle.csn_certify.proofs.LayoutNumbers.{Writes}
use Rattle.csn_certify.proofs.layouts.literal.Given as goal

-- the number writes the symbols before the place, wherever they stand
abbrev pub invariant-loop-at : goal.invariant-loop-at
invariant-loop-at l = Writes l.run l.at l.number
