use Rattle.std.proofs.Common.{◌+◌, ◌*◌, ◌≡◌, ◌<◌, ◌≤◌, ◌++◌, length}
use Rattle.csn_bits.specs.Numbers.{low_bits}
use Rattle.csn_bits.specs.Octets.{bits_of_octets}
use Rattle.csn_bits.proofs.packed.PackedBits.add.Given as goal

-- the octets so far and the bits that are left are all of them
abbrev pub invariant-loop-left : goal.invariant-loop-left
invariant-loop-left l =
    (8 * length l.self-inside.octets.items + l.left ≤ 524288)
    × (l.left ≤ l.initial.self-inside.held + l.count)
    × (bits_of_octets l.self-inside.octets.items ++ low_bits l.left l.bits ≡ l.fn.self ++ low_bits l.count l.number)
    × (l.self-inside.held < 8)

abbrev pub decreases-loop-left : goal.decreases-loop-left
decreases-loop-left l = l.left
