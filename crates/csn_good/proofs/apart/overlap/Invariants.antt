use Rattle.std.proofs.Common.{◌<◌, ℕ, IsTrue}
use Rattle.csn_good.specs.ClaimedSets.{claims_of}
use Rattle.csn_good.specs.Apart.{PartsMeet}
use Rattle.csn_good.proofs.apart.overlap.Given as goal

abbrev pub invariant-loop-octet : goal.invariant-loop-octet
invariant-loop-octet l = (o : ℕ) → o < l.octet → IsTrue ((claims_of l.c).reached l.i o) → PartsMeet l.c l.left l.right o → ⊥
