use Rattle.csn_certify.proofs.OverlapSearch.{AreLater}
use Rattle.csn_certify.proofs.search.Search.first_overlapping.Given as goal

abbrev pub invariant-loop-i : goal.invariant-loop-i
invariant-loop-i l = AreLater l.self.desc.now l.octet l.choice.parts.now l.later l.first l.i
