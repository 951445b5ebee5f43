use Rattle.std.proofs.Common.{◌≡◌, ◌-◌, ◌/◌, ◌^◌, ◌≤◌, ◌<◌, ◌++◌}
use Rattle.csn_bits.specs.Numbers.{low_bits}
use Rattle.csn_sample.proofs.drawn.Drawn.number.Given as goal

abbrev pub invariant-loop-at : goal.invariant-loop-at
invariant-loop-at l = (l.self.bits.items ≡ l.fn.self.bits.items ++ low_bits (l.width - l.at) (l.number / 2 ^ l.at)) × (l.at ≤ l.width) × (l.number < 65536)
