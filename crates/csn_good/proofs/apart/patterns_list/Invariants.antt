use Rattle.std.proofs.Common.{◌≡◌, take}
use Rattle.csn_good.specs.ClaimedSets.{patterns_at}
use Rattle.csn_good.proofs.apart.patterns_list.Given as goal

abbrev pub invariant-loop-k : goal.invariant-loop-k
invariant-loop-k l = l.list.items ≡ take l.k (patterns_at l.c l.i l.octet)
