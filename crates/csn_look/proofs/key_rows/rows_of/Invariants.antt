use Rattle.std.proofs.Common.{◌≡◌, ℕ, ◌<◌, ◌≤◌, length}
use Rattle.csn_look.specs.KeyRows.{IsRowed}
use Rattle.csn_look.proofs.key_rows.rows_of.Given as goal

-- the nodes from this one on have their rows
abbrev pub invariant-loop-i : goal.invariant-loop-i
invariant-loop-i l =
    (length l.rows.items ≡ length l.desc.nodes)
    × ((j : ℕ) → l.i ≤ j → j < length l.desc.nodes → IsRowed l.desc l.tables l.rows.items j)
