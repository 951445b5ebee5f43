use Rattle.std.proofs.Common.{refl}
use Rattle.csn_run.proofs.CertificateTexts.{text_of_claims, if_ok}
use Rattle.csn_run.proofs.reporting.certificate_text.Goals as goal

pub returns : goal.returns
returns c =
    let claims = c.in_ok-certificate.ensures in
    if_ok c.write_certificate.result c.write_certificate.ensures
    (λ text spelled. text_of_claims _ _ _ text.items refl claims.number claims.nullable claims.reached claims.ends
    claims.start claims.follow claims.patterns spelled)
