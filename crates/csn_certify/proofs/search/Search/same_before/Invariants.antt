use Rattle.csn_certify.proofs.search.Search.same_before.Given as goal

abbrev pub invariant-loop-other : goal.invariant-loop-other
invariant-loop-other l = Unit {0}
