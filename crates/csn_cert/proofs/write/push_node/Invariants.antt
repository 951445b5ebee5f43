use Rattle.std.proofs.Common.{◌≡◌, ◌++◌, take, flat_map}
use Rattle.csn_cert.specs.CertificateText.{position_text}
use Rattle.csn_cert.proofs.write.push_node.Given as goal

abbrev pub invariant-loop-position : goal.invariant-loop-position
invariant-loop-position l = l.out.items ≡ l.initial.out.items ++ flat_map position_text (take l.position-index l.node.positions)
