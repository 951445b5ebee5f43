use Rattle.std.proofs.Common.{take}
use Rattle.std.specs.Prelude.{◌↔◌, Contains}
use Rattle.csn_cert.specs.PatternV.{PatternV}
use Rattle.csn_good.specs.ClaimedSets.{patterns_at}
use Rattle.csn_good.specs.Made.{MadeAt, SomeMakes}
use Rattle.csn_good.proofs.made.Made.add_each.Given as goal

abbrev pub invariant-loop-k : goal.invariant-loop-k
invariant-loop-k l =
    (p : PatternV) → Contains l.patterns p ↔ SomeMakes (MadeAt l.self.at.items) (take l.k (patterns_at l.c l.i l.octet)) l.octet p
