use Rattle.csn_look.specs.Told.{OctetsAre}
use Rattle.csn_certify.proofs.SearchFacts.{EndsBelow}
use Rattle.csn_certify.proofs.search.Search.ends_of.Given as goal

abbrev pub invariant-loop-from : goal.invariant-loop-from
invariant-loop-from l = OctetsAre l.ends (EndsBelow l.self.desc.now l.node l.from)
