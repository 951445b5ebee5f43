use Rattle.csn_good.specs.ClaimedSets.{claims_of}
use Rattle.csn_claims.specs.Nullable.{AllNullable}
use Rattle.csn_good.proofs.EndsTold.{Carried}
use Rattle.csn_good.proofs.sets.all_nullable.Given as goal

abbrev pub invariant-loop-at : goal.invariant-loop-at
invariant-loop-at l = Carried (AllNullable (claims_of l.c)) l.parts l.at
