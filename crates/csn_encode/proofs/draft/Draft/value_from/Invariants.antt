use Rattle.std.proofs.Common.{◌≡◌, ◌<◌, ◌^◌, ◌-◌, take, drop}
use Rattle.csn_bits.specs.Numbers.{number_of}
use Rattle.csn_encode.proofs.draft.Draft.value_from.Given as goal

abbrev pub invariant-loop-at : goal.invariant-loop-at
invariant-loop-at l = (l.value ≡ number_of (drop l.from (take l.at l.self.bits))) × (l.value < 2 ^ (l.at - l.from))
