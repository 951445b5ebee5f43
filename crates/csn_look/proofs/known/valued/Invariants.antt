use Rattle.std.proofs.Common.{◌≡◌, ℕ, ◌+◌, ◌*◌, ◌%◌, ◌<◌}
use Rattle.csn_look.specs.Told.{OctetsAre}
use Rattle.csn_look.proofs.known.valued.Given as goal

abbrev pub invariant-loop-value : goal.invariant-loop-value
invariant-loop-value l = OctetsAre l.lengths (λ r. (value : ℕ) × (value < l.value) × (r ≡ l.unit * (l.m * value + l.c) % 8))
