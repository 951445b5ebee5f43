use Rattle.csn_good.specs.Made.{MadeAt, PartMakes}
use Rattle.csn_good.proofs.Making.{FilledTo}
use Rattle.csn_good.proofs.made.Made.behind.Given as goal

abbrev pub invariant-loop-octet : goal.invariant-loop-octet
invariant-loop-octet l = FilledTo l.at.items (PartMakes l.c (MadeAt l.self.at.items) l.i) l.octet
