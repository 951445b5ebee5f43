use Rattle.std.proofs.Common.{◌≡◌, ◌<◌, ◌^◌, ◌%◌, map, take}
use Rattle.csn_bits.specs.Numbers.{number_of}
use Rattle.csn_sample.proofs.drawn.packed_number.Given as goal

abbrev pub invariant-loop-at : goal.invariant-loop-at
invariant-loop-at l = (l.number ≡ number_of (map (λ bit. bit % 2) (take l.at l.bits))) × (l.number < 2 ^ l.at)
