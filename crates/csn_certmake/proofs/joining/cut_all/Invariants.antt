use Rattle.std.proofs.Common.{◌≡◌, take, map}
use Rattle.csn_certmake.specs.Behind.{cut_to}
use Rattle.csn_certmake.proofs.joining.cut_all.Given as goal

abbrev pub invariant-loop-pattern : goal.invariant-loop-pattern
invariant-loop-pattern l = l.cut.items ≡ map (cut_to l.room) (take l.pattern-index l.patterns)
