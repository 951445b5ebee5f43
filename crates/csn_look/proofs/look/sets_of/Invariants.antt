use Rattle.std.proofs.Common.{◌≡◌, ℕ, ◌<◌, ◌≤◌, length}
use Rattle.csn_look.specs.NodeSets.{IsKnown}
use Rattle.csn_look.proofs.look.sets_of.Given as goal

abbrev pub invariant-loop-i : goal.invariant-loop-i
invariant-loop-i l =
    (length l.sets.items ≡ length l.desc.nodes)
    × ((j : ℕ) → l.i ≤ j → j < length l.desc.nodes → IsKnown l.desc l.sets.items j)
