use Rattle.std.proofs.Common.{◌≡◌, ◌++◌, take}
use Rattle.csn_good.specs.Numbers.{marked}
use Rattle.csn_good.proofs.pattern_set.push_marked.Given as goal

abbrev pub invariant-loop-place : goal.invariant-loop-place
invariant-loop-place l = l.numbers.items ≡ l.initial.numbers.items ++ marked 0 (take l.place l.marks)
