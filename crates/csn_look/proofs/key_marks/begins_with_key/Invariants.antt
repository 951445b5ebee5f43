use Rattle.std.proofs.Common.{◌≡◌, ℕ, ◌<◌, List}
use Rattle.csn_look.specs.KeyMarks.{IsWord, place_of}
use Rattle.csn_look.proofs.Tables.KeyMarkFacts.{IsSearched}
use Rattle.csn_look.proofs.key_marks.begins_with_key.Given as goal

-- no longer prefix is a key
abbrev pub invariant-loop-at : goal.invariant-loop-at
invariant-loop-at l =
    (0 < l.at) × (l.at < 8192)
    × ((word : List ℕ) → IsWord word → place_of word ≡ l.place → IsSearched l.marks word l.at)

abbrev pub decreases-loop-at : goal.decreases-loop-at
decreases-loop-at l = l.at
