use Rattle.std.proofs.Common.{◌≡◌, ◌++◌, take, drop}
use Rattle.csn_rule.proofs.path.copy_path.Given as goal

-- the first steps stand in the array
abbrev pub invariant-loop-i : goal.invariant-loop-i
invariant-loop-i l = l.out ≡ take l.i l.path ++ drop l.i l.fn.out
