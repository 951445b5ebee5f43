use Rattle.std.proofs.Common.{◌≡◌, ◌≤◌, ◌-◌, ◌/◌, ◌%◌, ◌++◌, length}
use Rattle.std.specs.Prelude.{◌==◌}
use Rattle.csn_good.specs.Numbers.{marks_of}
use Rattle.csn_good.proofs.pattern_set.pattern_of.Given as goal

abbrev pub invariant-loop-at : goal.invariant-loop-at
invariant-loop-at l =
    (l.pattern.marks ++ marks_of (12 - l.at) l.rest ≡ marks_of 12 (l.number / 2)) × (l.pattern.whole ≡ (l.number % 2 == 1))
    × (length l.pattern.marks ≤ l.at)
