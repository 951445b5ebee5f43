use Rattle.std.proofs.Common.{◌≡◌, ℕ, List, ◌++◌, length}
use Rattle.csn_bits.specs.Octets.{IsBits}
use Rattle.csn_sample.proofs.drawn.Drawn.any_bits.Given as goal

abbrev pub invariant-loop : goal.invariant-loop
invariant-loop l =
    (added : List ℕ) × (l.self.bits.items ≡ l.fn.self.bits.items ++ added) × (length added ≡ l.counter) × IsBits added
