use Rattle.std.proofs.Common.{◌≡◌, [], ◌∷◌, Err, refl, ap}
use Rattle.csn_lines.specs.declared.fault.Fault.TheVariants.{TooLong}
use Rattle.csn_command.specs.Command.{names_pair}
use Rattle.csn_run.specs.Job.{fetches_first, fetches_second}
use Rattle.csn_run.specs.Planned.{is_long_before, is_long_after}
use Rattle.csn_lines.proofs.OutsideLemmas.{keeps_along}
use Rattle.csn_run.proofs.PairLemmas.{same_fault}
use Rattle.csn_lines.proofs.Blames.{ok_not_err}
use Rattle.csn_run.proofs.Apart.{the_fault}
use Rattle.csn_run.proofs.comparing.texts_of.Goals as goal

pub returns-in-Err-clause-too_long : goal.returns-in-Err-clause-too_long
returns-in-Err-clause-too_long g c = λ e.
    let same : c.in-Err.fault ≡ TooLong = the_fault e in
    let long = c.in-Err.ensures.too_long (ap Err same) in
    is_long_before long.0 long.1 long.2

pub returns-in-Err-description-clause-too_long : goal.returns-in-Err-description-clause-too_long
returns-in-Err-description-clause-too_long g c = λ e.
    let same : c.in-Err-description.fault ≡ TooLong = the_fault e in
    let long = c.in-Err-description.ensures.too_long (ap Err same) in
    is_long_after c.in-Ok.text.items long.0 c.in-Ok.ensures.whole (rw c.in-Ok.ensures.files at long.1) long.2

pub returns-in-Ok-description-clause-before : goal.returns-in-Ok-description-clause-before
returns-in-Ok-description-clause-before g c = c.in-Ok.ensures.whole

pub returns-in-Ok-description-clause-read : goal.returns-in-Ok-description-clause-read
returns-in-Ok-description-clause-read g c = λ e. absurd (ok_not_err e)

pub returns-in-Ok-description-clause-too_long : goal.returns-in-Ok-description-clause-too_long
returns-in-Ok-description-clause-too_long g c = λ e. absurd (ok_not_err e)

pub returns-in-Ok-description-clause-not_write : goal.returns-in-Ok-description-clause-not_write
returns-in-Ok-description-clause-not_write g c = λ e. absurd (ok_not_err e)

pub returns-in-Err-clause-not_write : goal.returns-in-Err-clause-not_write
returns-in-Err-clause-not_write g c = λ e. c.in-Err.ensures.not_write (ap Err (the_fault e))

pub returns-in-Err-clause-shelf : goal.returns-in-Err-clause-shelf
returns-in-Err-clause-shelf g c = keeps_along (λ e. ap Err (the_fault e)) c.in-Err.ensures.shelf

pub returns-in-Err-clause-missing : goal.returns-in-Err-clause-missing
returns-in-Err-clause-missing g c = λ lacks. same_fault c.in-Err.fault (c.in-Err.ensures.missing lacks)

pub returns-in-Err-description-clause-not_write : goal.returns-in-Err-description-clause-not_write
returns-in-Err-description-clause-not_write g c = λ e. c.in-Err-description.ensures.not_write (ap Err (the_fault e))

pub returns-in-Err-clause-fetched : goal.returns-in-Err-clause-fetched
returns-in-Err-clause-fetched g c = λ words row.
    fetches_first c.args.pair.before.now (c.args.pair.after.now ∷ []) (names_pair _ _ _ _ row refl) c.in-Err.ensures.fetched

pub returns-in-Ok-description-clause-fetched : goal.returns-in-Ok-description-clause-fetched
returns-in-Ok-description-clause-fetched g c = λ words row.
    fetches_second _ _ _ c.in-Ok.text.items _ _ row c.in-Ok.ensures.given c.in-Ok-description.ensures.fetched

pub returns-in-Err-description-clause-fetched : goal.returns-in-Err-description-clause-fetched
returns-in-Err-description-clause-fetched g c = λ words row.
    fetches_second _ _ _ c.in-Ok.text.items _ _ row c.in-Ok.ensures.given c.in-Err-description.ensures.fetched
