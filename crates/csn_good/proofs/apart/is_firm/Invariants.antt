use Rattle.std.proofs.Common.{◌<◌, ℕ}
use Rattle.csn_good.specs.Apart.{HasEmpty}
use Rattle.csn_good.proofs.apart.is_firm.Given as goal

abbrev pub invariant-loop-octet : goal.invariant-loop-octet
invariant-loop-octet l = (o : ℕ) → o < l.octet → HasEmpty l.c l.i o → ⊥
