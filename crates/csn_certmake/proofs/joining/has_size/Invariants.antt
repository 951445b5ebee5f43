use Rattle.std.proofs.Common.{take}
use Rattle.csn_certmake.specs.Behind.{HasSize}
use Rattle.csn_certmake.proofs.joining.has_size.Given as goal

abbrev pub invariant-loop-pattern : goal.invariant-loop-pattern
invariant-loop-pattern l = HasSize (take l.pattern-index l.patterns) l.size → ⊥
