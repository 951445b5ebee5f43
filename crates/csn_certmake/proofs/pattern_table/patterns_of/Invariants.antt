use Rattle.std.proofs.Common.{◌≡◌, ℕ, ◌<◌, ◌≤◌, length}
use Rattle.csn_certmake.specs.Rows.{HasItsRow}
use Rattle.csn_certmake.proofs.pattern_table.patterns_of.Given as goal

abbrev pub invariant-loop-i : goal.invariant-loop-i
invariant-loop-i l =
    (length l.rows.items ≡ length l.desc.nodes)
    × ((j : ℕ) → l.i ≤ j → j < length l.desc.nodes → HasItsRow l.desc l.rows.items j)
