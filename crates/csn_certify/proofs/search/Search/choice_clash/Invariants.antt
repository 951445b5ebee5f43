use Rattle.std.proofs.Common.{[], ◌∷◌}
use Rattle.csn_certify.proofs.Searching.{NoneBelow}
use Rattle.csn_certify.proofs.search.Search.choice_clash.Given as goal

abbrev pub invariant-loop-octet : goal.invariant-loop-octet
invariant-loop-octet l = NoneBelow l.self.desc.now (l.choice.node ∷ 3 ∷ []) l.octet
