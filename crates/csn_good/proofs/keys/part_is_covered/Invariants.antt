use Rattle.std.proofs.Common.{◌<◌, ℕ, IsTrue}
use Rattle.csn_good.specs.ClaimedSets.{patterns_at, claims_of}
use Rattle.csn_good.specs.Covering.{AreCovered}
use Rattle.csn_good.proofs.keys.part_is_covered.Given as goal

abbrev pub invariant-loop-octet : goal.invariant-loop-octet
invariant-loop-octet l =
    (o : ℕ) → o < l.octet → IsTrue ((claims_of l.c).reached l.i o) → AreCovered l.c l.i o (patterns_at l.c l.part o)
