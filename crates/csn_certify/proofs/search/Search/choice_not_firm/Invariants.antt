use Rattle.std.proofs.Common.{[], ◌∷◌}
use Rattle.csn_certify.proofs.Searching.{NoneBelow}
use Rattle.csn_certify.proofs.search.Search.choice_not_firm.Given as goal

abbrev pub invariant-loop-i : goal.invariant-loop-i
invariant-loop-i l = NoneBelow l.self.desc.now (l.choice.node ∷ 2 ∷ []) l.i
