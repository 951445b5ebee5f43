use Rattle.std.proofs.Common.{◌≡◌, ℕ, ◌<◌, List}
use Rattle.csn_look.specs.KeyMarks.{IsWord, place_of}
use Rattle.csn_look.proofs.Tables.KeyMarkFacts.{IsRaised}
use Rattle.csn_look.proofs.key_marks.add_key.Given as goal

-- the marks of the prefixes down to this one are set
abbrev pub invariant-loop-at : goal.invariant-loop-at
invariant-loop-at l =
    (0 < l.at) × (l.at < 8192)
    × ((word : List ℕ) → IsWord word → place_of word ≡ l.place → IsRaised l.initial.marks l.marks word l.at)

abbrev pub decreases-loop-at : goal.decreases-loop-at
decreases-loop-at l = l.at
