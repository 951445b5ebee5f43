use Rattle.std.proofs.Common.{◌≡◌, ℕ, length, None}
use Rattle.csn_fields.specs.Outlines.{outline_at}
use Rattle.csn_fields.proofs.outlines.no_outlines.Given as goal

-- so many nodes have none
abbrev pub invariant-loop : goal.invariant-loop
invariant-loop l = (length l.outlines.items ≡ l.counter) × ((i : ℕ) → outline_at l.outlines.items i ≡ None)
