use Rattle.csn_reasons.proofs.Ways.{AreNoted}
use Rattle.csn_reasons.proofs.nodes.parents_of.Given as goal

abbrev pub invariant-loop-number : goal.invariant-loop-number
invariant-loop-number l = AreNoted l.desc.nodes l.number l.parents.items
