use Rattle.std.proofs.Common.{◌≡◌, ◌++◌, ◌∷◌, take}
use Rattle.csn_plan.specs.Compiled.{digits_of}
use Rattle.csn_plan.proofs.compiling.push_word.Given as goal

abbrev pub invariant-loop-at : goal.invariant-loop-at
invariant-loop-at l = l.out.items ≡ l.fn.out.items ++ 32 ∷ digits_of (take l.at l.word)
