use Rattle.std.proofs.Common.{◌≡◌, ◌++◌, length, take}
use Rattle.csn_desc.specs.Spelled.{spelled}
use Rattle.csn_sample.proofs.drawn.Drawn.literal.Given as goal

abbrev pub invariant-loop-at : goal.invariant-loop-at
invariant-loop-at l = l.self.bits.items ≡ l.fn.self.bits.items ++ spelled (take l.at l.run) (length l.fn.self.bits.items)
