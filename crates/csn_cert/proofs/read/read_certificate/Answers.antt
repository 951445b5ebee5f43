use Rattle.std.proofs.Common.{List, sym, ap, subst, ◌∙◌}
use Rattle.std.proofs.lemmas.Bool.Decides.{Decides-eqb}
use Rattle.std.proofs.lemmas.Slice.Eq.{slice_eq-Decides}
use Rattle.std.proofs.lemmas.Result.{err_from_is_err_and}
use Rattle.std.proofs.lemmas.Bool.{false≢true}
use Rattle.std.specs.Fmt.{decimal}
use Rattle.csn_cert.specs.CertificateV.{NodeV}
use Rattle.csn_cert.specs.CertificateText.{CertificateText}
use Rattle.csn_cert.proofs.Refusals.{passed}
use Rattle.csn_cert.proofs.Certificates.{told, untold, text_told}
use Rattle.csn_cert.proofs.read.read_certificate.Goals as goal

pub returns-in_err-nodes-clause-refused : goal.returns-in_err-nodes-clause-refused
returns-in_err-nodes-clause-refused c =
    let p = err_from_is_err_and c.from_residual-in_err-nodes.result c.from_residual-in_err-nodes.ensures.1 in
    passed c.from_residual-in_err-nodes.result p.0 c.in_err-nodes.field-0.0 p.1 p.2
    (λ never d is. never d is.certificate
    (told c.args.text.now c.expect.new.self c.line.new.self c.in_ok-count.count.now d
    (sym c.new-rest.ensures ∙ c.in_ok-expect.ensures.ok) c.in_ok-count.ensures.ok c.in_ok-count.ensures.first
    is).1) c.in_err-nodes.ensures.refused

pub returns-then-eq-clause-ok : goal.returns-then-eq-clause-ok
returns-then-eq-clause-ok c =
    let told_by = slice_eq-Decides Decides-eqb c.in_ok-count.count.now c.as_bytes.result.now c.eq.result c.eq.ensures in
    subst (λ (ns : List NodeV). CertificateText ns c.args.text.now) (sym c.of.ensures)
    (text_told c.args.text.now c.expect.new.self c.line.new.self c.in_ok-count.count.now c.as_bytes.result.now
    c.in_ok-nodes.nodes.items (sym c.new-rest.ensures ∙ c.in_ok-expect.ensures.ok)
    c.in_ok-count.ensures.ok c.in_ok-nodes.ensures.well_formed c.in_ok-nodes.ensures.ok
    (c.as_bytes.ensures.value ∙ c.format.ensures.text ∙ ap decimal (c.len.ensures ∙ c.in_ok-nodes.nodes.ok.0)) (told_by.0 c.if-eq.true))

pub returns-else-eq-clause-refused : goal.returns-else-eq-clause-refused
returns-else-eq-clause-refused c = λ d is.
    let told_by = slice_eq-Decides Decides-eqb c.in_ok-count.count.now c.as_bytes.result.now c.eq.result c.eq.ensures in
    untold c.args.text.now c.expect.new.self c.line.new.self c.in_ok-count.count.now c.as_bytes.result.now
    c.in_ok-nodes.nodes.items d (sym c.new-rest.ensures ∙ c.in_ok-expect.ensures.ok)
    c.in_ok-count.ensures.ok c.in_ok-count.ensures.first c.in_ok-nodes.ensures.well_formed
    c.in_ok-nodes.ensures.ok
    (c.as_bytes.ensures.value ∙ c.format.ensures.text ∙ ap decimal (c.len.ensures ∙ c.in_ok-nodes.nodes.ok.0))
    (λ same. false≢true (sym c.if-eq.false ∙ told_by.1 same)) is
