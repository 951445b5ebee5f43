use Rattle.csn_certify.proofs.SearchFacts.{NoNullBelow}
use Rattle.csn_certify.proofs.search.Search.first_null.Given as goal

abbrev pub invariant-loop-j : goal.invariant-loop-j
invariant-loop-j l = NoNullBelow l.self.desc.now l.choice.parts.now l.from l.j
