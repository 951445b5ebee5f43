use Rattle.std.proofs.Common.{◌<◌, ℕ, IsTrue}
use Rattle.csn_good.specs.ClaimedSets.{claims_of}
use Rattle.csn_claims.specs.Ends.{NodeEnds}
use Rattle.csn_good.proofs.sets.has_ends.Given as goal

abbrev pub invariant-loop-end : goal.invariant-loop-end
invariant-loop-end l = (p : ℕ) → p < l.end → NodeEnds l.desc (claims_of l.c) l.node l.octet p → IsTrue ((claims_of l.c).ends l.i l.octet p)
