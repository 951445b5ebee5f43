use Rattle.csn_certmake.proofs.OneCertificate.{one_certificate, one_text}
use Rattle.csn_certmake.proofs.laws.certificates_are_one.Goals as goal

pub returns-clause-certificate : goal.returns-clause-certificate
returns-clause-certificate c = λ d certificate other is claims others. one_certificate d certificate other is claims others

pub returns-clause-text : goal.returns-clause-text
returns-clause-text c = λ d text other is has others. one_text d text other is has others
