use Rattle.std.proofs.Common.{◌≡◌, ◌<◌, ◌≤◌, ℕ, IsTrue, Some, slice_get}
use Rattle.csn_good.specs.ClaimedSets.{claims_of}
use Rattle.csn_good.specs.Octets.{has_octet}
use Rattle.csn_good.proofs.reaching.each_has.Given as goal

abbrev pub invariant-loop-at : goal.invariant-loop-at
invariant-loop-at l =
    (place i o : ℕ) → place < l.at → slice_get l.parts place ≡ Some i → o ≤ 7 → IsTrue (has_octet l.begins.has o)
    → IsTrue ((claims_of l.c).reached i o)
