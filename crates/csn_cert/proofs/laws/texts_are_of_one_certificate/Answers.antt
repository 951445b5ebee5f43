use Rattle.std.proofs.Common.{sym, ◌∙◌}
use Rattle.csn_cert.proofs.Certificates.{texts_differ}
use Rattle.csn_cert.proofs.laws.texts_are_of_one_certificate.Goals as goal

pub returns-clause-certificate : goal.returns-clause-certificate
returns-clause-certificate c = texts_differ

pub returns-clause-text : goal.returns-clause-text
returns-clause-text c = λ d text other is is'. is.spelled ∙ sym is'.spelled
