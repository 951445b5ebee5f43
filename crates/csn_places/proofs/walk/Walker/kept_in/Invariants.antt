use Rattle.std.proofs.Common.{◌≡◌, ◌≤◌, ◌+◌, Bool, drop}
use Rattle.csn_grammar.specs.ExprV.{ExprV, branches_of}
use Rattle.csn_places.specs.Origins.{Tells, kept_in}
use Rattle.csn_places.proofs.walk.Walker.kept_in.Given as goal

abbrev pub invariant-loop-at : goal.invariant-loop-at
invariant-loop-at l = record {
  few : l.kept ≤ l.at;
  number : (void : ExprV → Bool) → Tells l.self.names.now l.self.reading void
      → l.kept + kept_in void (branches_of (drop l.at l.branches)) ≡ kept_in void (branches_of l.branches);
}
