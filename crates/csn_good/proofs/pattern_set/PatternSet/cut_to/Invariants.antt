use Rattle.std.proofs.Common.{take, map}
use Rattle.std.specs.Prelude.{◌↔◌, Contains}
use Rattle.csn_cert.specs.PatternV.{PatternV}
use Rattle.csn_good.specs.Behind.{CutsSome}
use Rattle.csn_good.specs.Numbers.{pattern_of}
use Rattle.csn_good.proofs.pattern_set.PatternSet.cut_to.Given as goal

abbrev pub invariant-loop-number : goal.invariant-loop-number
invariant-loop-number l =
    (p : PatternV) → Contains l.cut p ↔ CutsSome l.room (take l.number-index (map pattern_of l.number-items)) p
