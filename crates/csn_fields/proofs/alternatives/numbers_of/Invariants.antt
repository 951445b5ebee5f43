use Rattle.csn_fields.specs.Numbers.{AreNumbers}
use Rattle.csn_fields.proofs.alternatives.numbers_of.Given as goal

-- the choices among the first nodes have numbered their alternatives
abbrev pub invariant-loop-i : goal.invariant-loop-i
invariant-loop-i g l = AreNumbers l.plan l.i l.numbers.items
