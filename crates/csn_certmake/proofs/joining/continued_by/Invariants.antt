use Rattle.std.proofs.Common.{◌≡◌, take, flat_map}
use Rattle.csn_certmake.specs.Behind.{continued_by, HaveFewMarks}
use Rattle.csn_certmake.proofs.joining.continued_by.Given as goal

abbrev pub invariant-loop-pattern : goal.invariant-loop-pattern
invariant-loop-pattern l =
    (l.patterns.items ≡ flat_map (continued_by l.behind) (take l.pattern-index l.first)) × HaveFewMarks (take l.pattern-index l.first)
