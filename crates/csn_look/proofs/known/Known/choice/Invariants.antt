use Rattle.csn_look.proofs.Sets.Telling.{ChoiceSetsAre}
use Rattle.csn_look.proofs.known.Known.choice.Given as goal

abbrev pub invariant-loop-at : goal.invariant-loop-at
invariant-loop-at l = ChoiceSetsAre l.self.desc.now l.parts l.at l.sets
