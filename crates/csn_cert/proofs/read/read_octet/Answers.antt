use Rattle.std.proofs.Common.{◌+◌, ◌∷◌}
use Rattle.std.proofs.lemmas.Result.{err_from_is_err_and}
use Rattle.csn_cert.proofs.Refusals.{passed}
use Rattle.csn_cert.proofs.read.read_octet.Goals as goal

pub returns-in_err-expect-clause-refused : goal.returns-in_err-expect-clause-refused
returns-in_err-expect-clause-refused c =
    let p = err_from_is_err_and c.from_residual.result c.from_residual.ensures.1 in
    passed c.from_residual.result p.0 c.in_err-expect.field-0.0 p.1 p.2
    (λ never octet behind stands. never ((48 + octet) ∷ behind) stands.spelled) c.in_err-expect.ensures.refused
