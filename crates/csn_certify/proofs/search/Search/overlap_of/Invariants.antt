use Rattle.std.proofs.Common.{[], ◌∷◌}
use Rattle.csn_certify.proofs.Searching.{NoneBelow}
use Rattle.csn_certify.proofs.search.Search.overlap_of.Given as goal

abbrev pub invariant-loop-j : goal.invariant-loop-j
invariant-loop-j l = NoneBelow l.self.desc.now (l.choice.node ∷ 3 ∷ l.octet ∷ 3 ∷ l.i ∷ []) l.j
