use Rattle.std.proofs.Common.{◌≡◌, take, reverse}
use Rattle.csn_certify.specs.KeptNumbers.{value_in}
use Rattle.csn_certify.proofs.numbers.last_value.Given as goal

abbrev pub invariant-loop-at : goal.invariant-loop-at
invariant-loop-at l = l.value ≡ value_in l.field (reverse (take l.at l.numbers))
