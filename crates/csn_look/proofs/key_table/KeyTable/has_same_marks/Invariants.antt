use Rattle.std.proofs.Common.{◌≡◌, ℕ, ◌<◌, get_or}
use Rattle.csn_look.proofs.key_table.KeyTable.has_same_marks.Given as goal

-- the numbers before the place are the same
abbrev pub invariant-loop-at : goal.invariant-loop-at
invariant-loop-at l = (k : ℕ) → k < l.at → get_or l.self k 0 ≡ get_or l.other k 0
