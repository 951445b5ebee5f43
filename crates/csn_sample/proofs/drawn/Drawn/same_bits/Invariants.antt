use Rattle.std.proofs.Common.{◌≡◌, ◌++◌}
use Rattle.std.specs.Prelude.{replicate}
use Rattle.csn_sample.proofs.drawn.Drawn.same_bits.Given as goal

abbrev pub invariant-loop : goal.invariant-loop
invariant-loop l = l.self.bits.items ≡ l.fn.self.bits.items ++ replicate l.counter l.bit
