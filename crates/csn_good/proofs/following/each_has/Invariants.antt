use Rattle.std.proofs.Common.{◌≡◌, ◌<◌, ℕ, Some, slice_get}
use Rattle.csn_good.specs.ClaimedSets.{claims_of}
use Rattle.csn_good.specs.Wanted.{HasWanted}
use Rattle.csn_good.specs.declared.following.Around.TheVariants.{Alone}
use Rattle.csn_good.proofs.following.each_has.Given as goal

abbrev pub invariant-loop-at : goal.invariant-loop-at
invariant-loop-at l = (place i : ℕ) → place < l.at → slice_get l.parts place ≡ Some i → HasWanted (claims_of l.c) l.k i Alone
