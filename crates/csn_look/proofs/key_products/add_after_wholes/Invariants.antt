use Rattle.std.proofs.Common.{◌≡◌, ◌-◌, ◌*◌, ◌<◌, ◌≤◌, true}
use Rattle.csn_look.specs.KeyMarks.{is_marked}
use Rattle.csn_look.specs.KeyTables.{IsKeyTable}
use Rattle.csn_look.specs.KeySteps.{Gains, IsAfter}
use Rattle.csn_look.proofs.key_products.add_after_wholes.Given as goal

-- the keys behind whole keys whose mark stands before this place are added
abbrev pub invariant-loop-at : goal.invariant-loop-at
invariant-loop-at l = record {
  low : l.words ≤ l.at;
  high : l.at ≤ 2 * l.words;
  here : l.at < 2 * l.words → is_marked l.first l.at ≡ true;
  added : IsKeyTable l.rest → Gains l.initial.marks l.marks (IsAfter l.first l.rest l.size (l.at - l.words));
}

abbrev pub decreases-loop-at : goal.decreases-loop-at
decreases-loop-at l = 2 * l.words - l.at
