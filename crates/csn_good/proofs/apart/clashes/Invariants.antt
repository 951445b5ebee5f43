use Rattle.std.proofs.Common.{◌<◌, ℕ, IsTrue}
use Rattle.csn_good.specs.ClaimedSets.{claims_of}
use Rattle.csn_good.specs.Apart.{ClashesAt}
use Rattle.csn_good.proofs.apart.clashes.Given as goal

abbrev pub invariant-loop-octet : goal.invariant-loop-octet
invariant-loop-octet l = (o : ℕ) → o < l.octet → IsTrue ((claims_of l.c).reached l.i o) → ClashesAt l.c l.i l.part o → ⊥
