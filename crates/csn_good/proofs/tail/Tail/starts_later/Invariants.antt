use Rattle.std.proofs.Common.{◌<◌, ℕ, IsTrue}
use Rattle.csn_good.specs.ClaimedSets.{claims_of}
use Rattle.csn_good.specs.Tails.{tail_has}
use Rattle.csn_good.proofs.tail.Tail.starts_later.Given as goal

abbrev pub invariant-loop-end : goal.invariant-loop-end
invariant-loop-end l = (k : ℕ) → k < l.end → IsTrue ((claims_of l.c).ends l.i l.octet k) → IsTrue (tail_has l.self k l.bit) → ⊥
