use Rattle.std.proofs.Common.{◌≡◌, length}
use Rattle.csn_certmake.proofs.Telling.{NodesSo}
use Rattle.csn_certmake.proofs.make.certificate_of.Given as goal

abbrev pub invariant-loop-node : goal.invariant-loop-node
invariant-loop-node l = (length l.c ≡ l.node) × NodesSo l.look l.reach l.rows l.node l.c
