use Rattle.std.proofs.Common.{◌<◌, take}
use Rattle.csn_good.specs.ListsMeeting.{HasShort}
use Rattle.csn_good.proofs.bit_by_bit.has_short.Given as goal

abbrev pub invariant-loop-pattern : goal.invariant-loop-pattern
invariant-loop-pattern l = (HasShort (take l.pattern-index l.patterns) l.at → ⊥) × (0 < l.pattern-index → l.at < 12)
