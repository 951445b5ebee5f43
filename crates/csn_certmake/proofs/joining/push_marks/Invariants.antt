use Rattle.std.proofs.Common.{◌≡◌, ◌++◌, take}
use Rattle.csn_certmake.proofs.joining.push_marks.Given as goal

abbrev pub invariant-loop-at : goal.invariant-loop-at
invariant-loop-at l = (l.pattern.marks ≡ l.fn.pattern.marks ++ take l.at l.from.marks) × (l.pattern.whole ≡ l.fn.pattern.whole)
