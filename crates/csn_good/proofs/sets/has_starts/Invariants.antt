use Rattle.std.proofs.Common.{◌<◌, ℕ, IsTrue}
use Rattle.csn_good.specs.ClaimedSets.{claims_of}
use Rattle.csn_claims.specs.Starts.{NodeStarts}
use Rattle.csn_good.proofs.sets.has_starts.Given as goal

abbrev pub invariant-loop-bit : goal.invariant-loop-bit
invariant-loop-bit l = (bit : ℕ) → bit < l.bit → NodeStarts l.desc (claims_of l.c) l.node l.octet bit → IsTrue ((claims_of l.c).starts l.i l.octet bit)
