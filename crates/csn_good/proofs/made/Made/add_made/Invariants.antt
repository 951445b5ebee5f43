use Rattle.std.proofs.Common.{take, map}
use Rattle.std.specs.Prelude.{◌↔◌, ◌⊎◌, Contains}
use Rattle.csn_cert.specs.PatternV.{PatternV}
use Rattle.csn_good.specs.Behind.{JoinsOne}
use Rattle.csn_good.specs.Numbers.{pattern_of}
use Rattle.csn_good.proofs.made.Made.add_made.Given as goal

abbrev pub invariant-loop-rest : goal.invariant-loop-rest
invariant-loop-rest l =
    (p : PatternV)
    → Contains l.patterns p ↔ (Contains l.initial.patterns p ⊎ JoinsOne l.first (take l.rest-index (map pattern_of l.rest-items)) p)
