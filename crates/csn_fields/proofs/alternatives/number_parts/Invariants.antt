use Rattle.std.proofs.Common.{◌≡◌, ℕ, length}
use Rattle.csn_fields.specs.Numbers.{Numbered}
use Rattle.csn_fields.proofs.alternatives.number_parts.Given as goal

-- the first parts have their numbers
abbrev pub invariant-loop-k : goal.invariant-loop-k
invariant-loop-k l =
    (length l.numbers.items ≡ length l.fn.numbers.items)
    × ((i : ℕ) → Numbered l.parts l.k l.fn.numbers.items l.numbers.items i)
