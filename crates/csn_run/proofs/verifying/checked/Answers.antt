use Rattle.csn_run.proofs.VerifyLemmas.{is_checked}
use Rattle.csn_run.proofs.verifying.checked.Goals as goal

pub returns-in-Ok : goal.returns-in-Ok
returns-in-Ok c = is_checked c.args.desc.now c.args.text.now c.in-Ok.certificate c.check_certificate.result
    c.in-Ok.ensures.ok c.check_certificate.ensures.proved c.check_certificate.ensures.unproved
