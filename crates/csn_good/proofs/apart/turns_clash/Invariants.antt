use Rattle.std.proofs.Common.{◌<◌, ℕ, IsTrue}
use Rattle.csn_good.specs.Octets.{has_octet}
use Rattle.csn_good.specs.Apart.{ClashesAt}
use Rattle.csn_good.proofs.apart.turns_clash.Given as goal

abbrev pub invariant-loop-octet : goal.invariant-loop-octet
invariant-loop-octet l = (o : ℕ) → o < l.octet → IsTrue (has_octet l.turns.has o) → ClashesAt l.c l.i l.part o → ⊥
