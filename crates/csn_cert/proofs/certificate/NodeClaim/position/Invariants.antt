use Rattle.std.proofs.Common.{◌≡◌, ◌==◌, find, take, None}
use Rattle.csn_cert.proofs.certificate.NodeClaim.position.Given as goal

abbrev pub invariant-loop-position : goal.invariant-loop-position
invariant-loop-position l = find (λ p. p.octet == l.octet) (take l.position-index l.self.positions) ≡ None
