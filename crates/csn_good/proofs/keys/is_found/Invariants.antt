use Rattle.std.proofs.Common.{◌≤◌, ◌-◌, length}
use Rattle.std.specs.Prelude.{IfSome}
use Rattle.csn_cert.specs.Growing.{claimed}
use Rattle.csn_good.proofs.keys.is_found.Given as goal

abbrev pub invariant-loop-low : goal.invariant-loop-low
invariant-loop-low l = (l.low ≤ l.high) × IfSome (claimed l.c l.i l.octet) (λ p. l.high ≤ length p.patterns)

abbrev pub decreases-loop-low : goal.decreases-loop-low
decreases-loop-low l = l.high - l.low
