use Rattle.std.proofs.Common.{drop}
use Rattle.csn_look.proofs.Sets.Telling.{PartsSetsAre}
use Rattle.csn_look.proofs.known.Known.sequence.Given as goal

abbrev pub invariant-loop-at : goal.invariant-loop-at
invariant-loop-at l = PartsSetsAre l.self.desc.now (drop l.at l.parts) l.sets
