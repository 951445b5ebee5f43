use Rattle.std.proofs.Common.{◌≡◌, take, flat_map}
use Rattle.csn_certmake.specs.Patterns.{continued}
use Rattle.csn_certmake.proofs.joining.continued_at.Given as goal

abbrev pub invariant-loop-pattern : goal.invariant-loop-pattern
invariant-loop-pattern l = l.patterns.items ≡ flat_map (continued l.rests l.octet) (take l.pattern-index l.first)
