use Rattle.csn_certmake.proofs.Telling.{NodeSo}
use Rattle.csn_certmake.proofs.make.add_node.Given as goal

abbrev pub invariant-loop-octet : goal.invariant-loop-octet
invariant-loop-octet l = NodeSo l.look l.reach l.row l.node l.octet l.fn.c l.c
