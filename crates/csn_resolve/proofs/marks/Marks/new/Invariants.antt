use Rattle.std.proofs.Common.{◌≡◌, ℕ, true, Some, length, slice_get}
use Rattle.csn_resolve.specs.Marked.{AreSound, unmarked}
use Rattle.csn_resolve.proofs.marks.Marks.new.Given as goal

abbrev pub invariant-loop : goal.invariant-loop
invariant-loop l = (length l.marks.items ≡ l.counter) × ((k : ℕ) → slice_get l.marks.items k ≡ Some true → ⊥)

abbrev pub invariant-loop-2 : goal.invariant-loop-2
invariant-loop-2 l = (length l.marks.items ≡ length l.names) × AreSound l.names l.test l.marks.items

abbrev pub decreases-loop-2 : goal.decreases-loop-2
decreases-loop-2 l = unmarked l.marks.items
