use Rattle.std.proofs.Common.{◌<◌, ◌≤◌, ℕ, IsTrue}
use Rattle.csn_good.specs.ClaimedSets.{claims_of}
use Rattle.csn_claims.specs.Starts.{NodeStarts}
use Rattle.csn_good.proofs.sets.keeps_start.Given as goal

abbrev pub invariant-loop-octet : goal.invariant-loop-octet
invariant-loop-octet l = (o bit : ℕ) → o < l.octet → bit ≤ 1 → IsTrue ((claims_of l.c).reached l.i o)
    → NodeStarts l.desc (claims_of l.c) l.node o bit → IsTrue ((claims_of l.c).starts l.i o bit)
