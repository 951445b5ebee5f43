use Rattle.std.proofs.Common.{◌≡◌, ◌≤◌, drop}
use Rattle.csn_good.specs.Numbers.{marks_number}
use Rattle.csn_good.proofs.pattern_set.number_of.Given as goal

abbrev pub invariant-loop-at : goal.invariant-loop-at
invariant-loop-at l = (l.number ≡ marks_number (drop l.at l.pattern.marks)) × (l.number ≤ 797160)
