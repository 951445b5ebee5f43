use Rattle.std.proofs.Common.{◌<◌, ◌≤◌, ℕ, IsTrue}
use Rattle.csn_good.specs.ClaimedSets.{claims_of}
use Rattle.csn_claims.specs.Ends.{NodeEnds}
use Rattle.csn_good.proofs.sets.keeps_ends.Given as goal

abbrev pub invariant-loop-octet : goal.invariant-loop-octet
invariant-loop-octet l = (o p : ℕ) → o < l.octet → p ≤ 7 → IsTrue ((claims_of l.c).reached l.i o)
    → NodeEnds l.desc (claims_of l.c) l.node o p → IsTrue ((claims_of l.c).ends l.i o p)
