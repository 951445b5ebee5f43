use Rattle.std.proofs.Common.{◌≡◌, ℕ, ◌+◌, ◌*◌, ◌<◌, ◌≤◌, get_or}
use Rattle.std.specs.Prelude.{◌⊎◌, bit_or}
use Rattle.csn_look.proofs.blocks.join_block.Given as goal

-- the numbers of the block before the place have the marks of both, and all others are as they were
abbrev pub invariant-loop-k : goal.invariant-loop-k
invariant-loop-k l =
    ((k : ℕ) → k < l.k → get_or l.marks (4 * l.at + k) 0 ≡ bit_or (get_or l.initial.marks (4 * l.at + k) 0) (get_or l.block k 0))
    × ((k : ℕ) → (k < 4 * l.at) ⊎ (4 * l.at + l.k ≤ k) → get_or l.marks k 0 ≡ get_or l.initial.marks k 0)
