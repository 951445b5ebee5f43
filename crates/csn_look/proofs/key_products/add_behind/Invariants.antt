use Rattle.std.proofs.Common.{◌≡◌, ℕ, ◌+◌, List, length}
use Rattle.csn_look.specs.KeyMarks.{IsWord, place_of}
use Rattle.csn_look.specs.KeySteps.{Gains, IsShortBehind}
use Rattle.csn_look.proofs.key_products.add_behind.Given as goal

-- the keys of fewer bits are added
abbrev pub invariant-loop-size : goal.invariant-loop-size
invariant-loop-size l =
    (first : List ℕ) → IsWord first → place_of first ≡ l.front → length first + l.room ≡ 12
    → Gains l.initial.marks l.marks (IsShortBehind l.rest first l.size)
