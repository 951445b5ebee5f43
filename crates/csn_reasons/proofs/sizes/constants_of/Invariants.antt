use Rattle.std.proofs.Common.{◌≡◌, length}
use Rattle.csn_reasons.proofs.sizes.constants_of.Given as goal

abbrev pub invariant-loop-number : goal.invariant-loop-number
invariant-loop-number l = length l.bits.items ≡ l.number
