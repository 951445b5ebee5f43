use Rattle.std.proofs.Common.{◌<◌, ℕ}
use Rattle.csn_cert.specs.PatternV.{PatternV}
use Rattle.csn_good.specs.Made.{MadeAt}
use Rattle.csn_good.proofs.made.Made.is_within.Given as goal

abbrev pub invariant-loop-octet : goal.invariant-loop-octet
invariant-loop-octet l = (o : ℕ) (p : PatternV) → o < l.octet → MadeAt l.self.at.items o p → MadeAt l.other.at.items o p
