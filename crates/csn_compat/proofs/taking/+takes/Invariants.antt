-- Each call goes to a later old node, or to a later new one at the same old one.
use Rattle.std.proofs.Common.{◌≡◌, ℕ, ◌+◌, ◌-◌, ◌*◌, ◌<◌, ◌++◌, List, length, Some}
use Rattle.std.specs.Prelude.{slice_get}
use Rattle.csn_compat.specs.declared.pairs.Pair.{Pair}
use Rattle.csn_compat.specs.Takes.{Takes}
use Rattle.csn_compat.specs.Places.{pairs_behind, FirstTaken}
use Rattle.csn_compat.proofs.taking.+takes.Given as goal

abbrev pub decreases-takes : goal.decreases-takes
decreases-takes l = 40000 * (length l.was.now.nodes - l.i) + 2 * (length l.now.now.nodes - l.j) + 1

abbrev pub decreases-each_is_taken : goal.decreases-each_is_taken
decreases-each_is_taken l = 40000 * (length l.was.now.nodes - l.i) + 2 * (length l.now.now.nodes - l.j)

abbrev pub decreases-some_takes : goal.decreases-some_takes
decreases-some_takes l = 40000 * (length l.was.now.nodes - l.i) + 2 * (length l.now.now.nodes - l.j)

abbrev pub decreases-sequence_is_taken : goal.decreases-sequence_is_taken
decreases-sequence_is_taken l = 40000 * (length l.was.now.nodes - l.i) + 1

abbrev pub decreases-first_are_taken : goal.decreases-first_are_taken
decreases-first_are_taken l = 40000 * (length l.was.now.nodes - l.i)

abbrev pub decreases-last_is_taken : goal.decreases-last_is_taken
decreases-last_is_taken l = 40000 * (length l.was.now.nodes - l.i)

abbrev pub decreases-kind_is_taken : goal.decreases-kind_is_taken
decreases-kind_is_taken l = 40000 * (length l.was.now.nodes - l.i) + 2

-- the first alternatives are taken
abbrev pub invariant-each_is_taken-loop-at : goal.invariant-each_is_taken-loop-at
invariant-each_is_taken-loop-at l = record {
  kept : l.pairs.items ≡ l.fn.pairs.items;
  each : (k p : ℕ) → k < l.at → slice_get l.parts k ≡ Some p → Takes l.was l.now p l.j l.fn.pairs.items;
}

-- none of the first alternatives takes the old node
abbrev pub invariant-some_takes-loop-at : goal.invariant-some_takes-loop-at
invariant-some_takes-loop-at l = record {
  kept : l.pairs.items ≡ l.fn.pairs.items;
  none : (k q : ℕ) → k < l.at → slice_get l.others k ≡ Some q → Takes l.was l.now l.i q l.fn.pairs.items → ⊥;
}

-- the first parts are taken, and their pairs are kept
abbrev pub invariant-first_are_taken-loop-at : goal.invariant-first_are_taken-loop-at
invariant-first_are_taken-loop-at l = record {
  pairs : l.pairs.items ≡ pairs_behind l.was l.now l.parts l.others l.fn.pairs.items l.at;
  extends : (more : List Pair) × (l.pairs.items ≡ l.fn.pairs.items ++ more);
  taken : FirstTaken l.was l.now l.parts l.others l.fn.pairs.items l.at;
}
