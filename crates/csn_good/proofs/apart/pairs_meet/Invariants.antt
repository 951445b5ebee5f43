use Rattle.std.proofs.Common.{◌≡◌, ◌<◌, ℕ, Some, slice_get}
use Rattle.csn_cert.specs.PatternV.{PatternV}
use Rattle.csn_good.specs.ClaimedSets.{patterns_at}
use Rattle.csn_good.specs.Apart.{SomeMeets}
use Rattle.csn_good.proofs.apart.pairs_meet.Given as goal

abbrev pub invariant-loop-k : goal.invariant-loop-k
invariant-loop-k l = (n : ℕ) (p : PatternV) → n < l.k → slice_get (patterns_at l.c l.left l.octet) n ≡ Some p → SomeMeets l.c l.right l.octet p → ⊥
