use Rattle.std.proofs.Common.{◌≡◌, ◌<◌, ◌+◌, ◌*◌, ◌%◌, ℕ}
use Rattle.csn_good.specs.Octets.{OctetsAre}
use Rattle.csn_good.proofs.ending.ends_of_values.Given as goal

abbrev pub invariant-loop-value : goal.invariant-loop-value
invariant-loop-value l = OctetsAre l.ends.has (λ p. (value : ℕ) × (value < l.value) × (p ≡ (l.octet + l.unit * (l.m * value + l.c)) % 8))
