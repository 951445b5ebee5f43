use Rattle.csn_lines.proofs.AlikeTexts.{FirstAlike}
use Rattle.csn_lines.proofs.migrate.+is_alike.Given as goal

abbrev pub invariant-loop-at : goal.invariant-loop-at
invariant-loop-at l = FirstAlike l.rows l.at
