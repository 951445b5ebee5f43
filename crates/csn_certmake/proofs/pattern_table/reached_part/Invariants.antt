use Rattle.std.proofs.Common.{ℕ, ◌≡◌, ◌<◌, length}
use Rattle.std.specs.FinSet as set
use Rattle.csn_certmake.specs.Patterns.{patterns_in}
use Rattle.csn_certmake.specs.Rows.{kept_if}
use Rattle.csn_certmake.proofs.pattern_table.reached_part.Given as goal

abbrev pub invariant-loop-octet : goal.invariant-loop-octet
invariant-loop-octet l =
    (length l.part ≡ l.octet)
    × ((octet : ℕ) → octet < l.octet → patterns_in l.part octet ≡ kept_if (set.contains l.reached octet) (patterns_in l.row octet))
