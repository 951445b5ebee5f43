use Rattle.std.proofs.Common.{take}
use Rattle.std.specs.Prelude.{◌↔◌, Contains}
use Rattle.csn_cert.specs.PatternV.{PatternV}
use Rattle.csn_good.specs.ListsMeeting.{MayHave}
use Rattle.csn_good.proofs.bit_by_bit.with_bit.Given as goal

abbrev pub invariant-loop-pattern : goal.invariant-loop-pattern
invariant-loop-pattern l = (p : PatternV) → Contains l.some.items p ↔ (Contains (take l.pattern-index l.patterns) p × MayHave l.at l.bit p)
