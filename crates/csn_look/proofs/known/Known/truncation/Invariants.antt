use Rattle.std.proofs.Common.{drop}
use Rattle.csn_look.proofs.Sets.Telling.{LeadSetsAre}
use Rattle.csn_look.proofs.known.Known.truncation.Given as goal

abbrev pub invariant-loop-at : goal.invariant-loop-at
invariant-loop-at l = LeadSetsAre l.self.desc.now (drop l.at l.parts) l.sets
