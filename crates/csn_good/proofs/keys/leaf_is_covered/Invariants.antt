use Rattle.std.proofs.Common.{◌<◌, ℕ, IsTrue}
use Rattle.csn_good.specs.ClaimedSets.{claims_of}
use Rattle.csn_good.specs.Patterns.{leaf_pattern, IsCovered}
use Rattle.csn_good.proofs.keys.leaf_is_covered.Given as goal

abbrev pub invariant-loop-octet : goal.invariant-loop-octet
invariant-loop-octet l =
    (o : ℕ) → o < l.octet → IsTrue ((claims_of l.c).reached l.i o)
    → IsCovered l.c l.i o (leaf_pattern l.desc.reading l.node o)
