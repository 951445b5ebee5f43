use Rattle.std.proofs.Common.{drop}
use Rattle.csn_resolve.proofs.Giving.KeptFacts.{OnlyAfter}
use Rattle.csn_resolve.proofs.build.Builder.only_kept.Given as goal

abbrev pub invariant-loop-at : goal.invariant-loop-at
invariant-loop-at l = OnlyAfter l.self.names.now l.self.reading l.branches (drop l.at l.branches) l.only
