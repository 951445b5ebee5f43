use Rattle.std.proofs.Common.{◌≡◌, ℕ, ◌*◌, ◌<◌, ◌≤◌, get_or}
use Rattle.std.specs.Prelude.{bit_or}
use Rattle.csn_look.proofs.blocks.join_marks.Given as goal

-- before the block each number has the marks of both, and from it on it is as it was
abbrev pub invariant-loop-at : goal.invariant-loop-at
invariant-loop-at l =
    ((k : ℕ) → k < 4 * l.at → get_or l.marks k 0 ≡ bit_or (get_or l.initial.marks k 0) (get_or l.others k 0))
    × ((k : ℕ) → 4 * l.at ≤ k → get_or l.marks k 0 ≡ get_or l.initial.marks k 0)
