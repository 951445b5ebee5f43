use Rattle.std.proofs.Common.{◌≡◌, [], ◌∷◌, Err, inl, inr, refl, ap}
use Rattle.csn_lines.specs.declared.fault.Fault.TheVariants.{Read}
use Rattle.csn_run.proofs.JobLemmas.{refused_read}
use Rattle.csn_run.proofs.PairLemmas.{same_fault}
use Rattle.csn_run.proofs.VerifyLemmas.{certificate_ends, comes_behind, comes_description, fault_ends}
use Rattle.csn_run.proofs.VerifyLemmas.{lacks_certificate, refused_ends, refused_lacks, same_why}
use Rattle.csn_lines.proofs.Blames.{ok_not_err}
use Rattle.csn_command.specs.Command.{names_certificate}
use Rattle.csn_run.specs.Job.{fetches_first, fetches_certificate}
use Rattle.csn_run.proofs.Apart.{the_fault}
use Rattle.csn_run.proofs.verifying.verify_file.Goals as goal

pub returns-in-Err-clause-ends : goal.returns-in-Err-clause-ends
returns-in-Err-clause-ends g c = λ words row watchers left taken.
    refused_ends words c.args.rule c.args.certificate.now row _ watchers left taken _ c.in-Err.why _
    c.in-Err.ensures.none (λ fault e. c.in-Err.ensures.no_conflict fault (ap Err e)) c.refuse.ensures

pub returns-in-Err-clause-read : goal.returns-in-Err-clause-read
returns-in-Err-clause-read g c = λ e words row. (
  c.args.rule.file.now,
  comes_description words c.args.rule c.args.certificate.now row _,
  c.in-Err.ensures.read
      (ap Err (refused_read c.in-Err.why _ _ c.refuse.ensures e)),
)

pub returns-in-Err-clause-missing : goal.returns-in-Err-clause-missing
returns-in-Err-clause-missing g c = λ words file row comes lacks.
    refused_lacks words c.args.rule c.args.certificate.now row c.known.ensures.of_texts _ file c.in-Err.why _ _ comes
    lacks c.in-Err.ensures.none (λ fault e. c.in-Err.ensures.no_conflict fault (ap Err e)) c.refuse.ensures
    (λ none. same_why c.in-Err.why (c.in-Err.ensures.missing none))

pub returns-in-Ok-whole_file-clause-ends : goal.returns-in-Ok-whole_file-clause-ends
returns-in-Ok-whole_file-clause-ends g c = λ words row watchers left taken.
    certificate_ends words c.args.rule c.args.certificate.now row _ watchers c.in-Ok.desc _ left taken _ _
    c.in-Ok.ensures.desc (rw c.in-Ok.ensures.files at c.in-Ok-whole_file.ensures.whole)
    (rw c.deref.ensures.value at c.verify_text.ensures.ok) c.verify_text.ensures.err

pub returns-clause-ends : goal.returns-clause-ends
returns-clause-ends g c = λ words row watchers left taken.
    fault_ends words c.args.rule c.args.certificate.now row _ watchers c.in-Ok.desc left taken _ c.in-Err-whole_file.fault c.in-Ok.ensures.desc
    (λ e. c.in-Err-whole_file.ensures.not_write (ap Err e))
    (λ e. rw c.in-Ok.ensures.files at (c.in-Err-whole_file.ensures.too_long (ap Err e))) c.requires.pending

pub returns-clause-read : goal.returns-clause-read
returns-clause-read g c = λ e words row.
    let same : c.in-Err-whole_file.fault ≡ Read = the_fault e in
    let still = c.in-Ok.ensures.shelf.2 (λ h. ok_not_err h) in (
      c.args.certificate.now,
      comes_behind words c.args.rule c.args.certificate.now row _ c.in-Ok.desc
          c.in-Ok.ensures.desc,
      rw (c.in-Ok.ensures.files, still) at (c.in-Err-whole_file.ensures.read (ap Err same)),
    )

pub returns-clause-missing : goal.returns-clause-missing
returns-clause-missing g c = λ words file row comes lacks. (
  same_fault c.in-Err-whole_file.fault ((rw c.in-Ok.ensures.files at c.in-Err-whole_file.ensures.missing)
      (lacks_certificate words c.args.rule c.args.certificate.now row _ file comes lacks
      (λ none. elim (c.in-Ok.ensures.missing none) [
        | inl e ↦ ok_not_err e
        | inr e ↦ ok_not_err e
      ]))),
  c.requires.pending,
)

pub returns-in-Err-clause-fetched : goal.returns-in-Err-clause-fetched
returns-in-Err-clause-fetched g c = λ words row.
    fetches_first c.args.rule.file.now (c.args.certificate.now ∷ []) (names_certificate _ _ _ _ row refl) c.in-Err.ensures.fetched

pub returns-in-Ok-whole_file-clause-fetched : goal.returns-in-Ok-whole_file-clause-fetched
returns-in-Ok-whole_file-clause-fetched g c = λ words row.
    let given = c.in-Ok.ensures.given in
    fetches_certificate _ _ _ given.0 _ given.1 _ _ row given.2 given.3 given.4 c.in-Ok-whole_file.ensures.fetched

pub returns-clause-fetched : goal.returns-clause-fetched
returns-clause-fetched g c = λ words row.
    let given = c.in-Ok.ensures.given in
    fetches_certificate _ _ _ given.0 _ given.1 _ _ row given.2 given.3 given.4 c.in-Err-whole_file.ensures.fetched
