use Rattle.std.proofs.Common.{◌≡◌, ◌==◌, true, false, sym, ap, ◌∙◌, arith}
use Rattle.std.proofs.lemmas.Bool.Decides.{nat_tests}
use Rattle.csn_cert.specs.CertificateV.{PositionV}
use Rattle.csn_cert.proofs.Finding.{find_first, find_none_next, read_item}
use Rattle.csn_cert.proofs.certificate.NodeClaim.position.Goals as goal

pub returns-then-position-octet : goal.returns-then-position-octet
returns-then-position-octet c =
    let item : PositionV = c.position-item.result in
    let same = c.deref-position-items.ensures.value ∙ ap (λ n. n.positions) c.self.view_is in
    let octet : c.position.inside.octet ≡ item.octet = ap (λ p. p.octet) c.position.view_is in
    let holds : (item.octet == c.args.octet) ≡ true = grind (arith, nat_tests, octet, c.if-position-octet.true) in
    let there = read_item c.deref-position-items.result.now c.args.self.now.positions c.loop-position.position-index
    item same c.loop-position-test.true c.position-item.is in
    sym (find_first (λ p. p.octet == c.args.octet) c.args.self.now.positions c.loop-position.position-index item there holds c.loop-position.invariant)

pub loop-position-preserved : goal.loop-position-preserved
loop-position-preserved c =
    let item : PositionV = c.position-item.result in
    let same = c.deref-position-items.ensures.value ∙ ap (λ n. n.positions) c.self.view_is in
    let octet : c.position.inside.octet ≡ item.octet = ap (λ p. p.octet) c.position.view_is in
    let fails : (item.octet == c.args.octet) ≡ false = grind (arith, nat_tests, octet, c.if-position-octet.false) in
    let there = read_item c.deref-position-items.result.now c.args.self.now.positions c.loop-position.position-index
    item same c.loop-position-test.true c.position-item.is in
    find_none_next (λ p. p.octet == c.args.octet) c.args.self.now.positions c.loop-position.position-index item there fails c.loop-position.invariant
