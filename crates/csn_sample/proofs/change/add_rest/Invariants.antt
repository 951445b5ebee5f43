use Rattle.std.proofs.Common.{◌≡◌, ◌++◌, drop}
use Rattle.csn_sample.proofs.change.add_rest.Given as goal

-- what is added and what is left are all
abbrev pub invariant-loop-at : goal.invariant-loop-at
invariant-loop-at l = l.bits ++ drop l.at l.block ≡ l.fn.bits ++ drop l.from l.block
