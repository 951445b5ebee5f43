use Rattle.std.proofs.Common.{take}
use Rattle.csn_bits.specs.Numbers.{low_bits}
use Rattle.csn_judge.specs.Told.{BitsTold}
use Rattle.csn_judge.proofs.track.Track.bits.Given as goal

abbrev pub invariant-loop-at : goal.invariant-loop-at
invariant-loop-at g l =
    BitsTold g.Self.Track.takes l.node (take l.at (low_bits l.count l.number)) l.initial.self l.self
