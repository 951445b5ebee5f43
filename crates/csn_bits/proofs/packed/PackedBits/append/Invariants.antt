use Rattle.std.proofs.Common.{◌≡◌, ◌++◌, take}
use Rattle.csn_bits.specs.Octets.{bits_of_octets}
use Rattle.csn_bits.proofs.packed.PackedBits.append.Given as goal

abbrev pub invariant-loop-at : goal.invariant-loop-at
invariant-loop-at l = l.self ≡ l.fn.self ++ bits_of_octets (take l.at l.octets)
