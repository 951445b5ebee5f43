use Rattle.std.proofs.Common.{◌≡◌, ◌++◌, take}
use Rattle.csn_cert.specs.CertificateText.{nodes_text}
use Rattle.csn_cert.proofs.write.push_nodes.Given as goal

abbrev pub invariant-loop-number : goal.invariant-loop-number
invariant-loop-number l = l.out.items ≡ l.initial.out.items ++ nodes_text 0 (take l.number l.c)
