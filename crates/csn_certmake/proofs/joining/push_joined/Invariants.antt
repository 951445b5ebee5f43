use Rattle.std.proofs.Common.{◌≡◌, ◌++◌, take, map}
use Rattle.csn_certmake.specs.Patterns.{joined}
use Rattle.csn_certmake.proofs.joining.push_joined.Given as goal

abbrev pub invariant-loop-rest : goal.invariant-loop-rest
invariant-loop-rest l = l.patterns.items ≡ l.fn.patterns.items ++ map (joined l.first) (take l.rest-index l.rests)
