use Rattle.std.proofs.Common.{◌≡◌, Err, inl, inr, ap}
use Rattle.csn_lines.specs.declared.fault.Fault.TheVariants.{Read}
use Rattle.csn_run.proofs.PairLemmas.{comes_after, comes_before, fault_ends, lacks_one, same_fault, texts_end}
use Rattle.csn_run.proofs.Apart.{the_fault}
use Rattle.csn_run.proofs.comparing.compare_files.Goals as goal

pub returns-in-Ok-clause-ends : goal.returns-in-Ok-clause-ends
returns-in-Ok-clause-ends g c = λ words row watchers left taken. texts_end words c.args.pair row _ watchers _ _ left
    taken _ _ c.in-Ok.ensures.before c.in-Ok.ensures.after c.compare_texts.ensures

pub returns-in-Err-clause-ends : goal.returns-in-Err-clause-ends
returns-in-Err-clause-ends g c = λ words row watchers left taken.
    fault_ends words c.args.pair row _ watchers left taken _ c.in-Err.fault
    (λ e. c.in-Err.ensures.not_write (ap Err e)) (λ e. c.in-Err.ensures.too_long (ap Err e)) c.requires.pending

pub returns-in-Err-clause-read : goal.returns-in-Err-clause-read
returns-in-Err-clause-read g c = λ e words row.
    let same : c.in-Err.fault ≡ Read = the_fault e in
    elim (c.in-Err.ensures.read (ap Err same)) [
      | inl cannot ↦ (c.args.pair.before.now, comes_before words c.args.pair row _, cannot)
      | inr behind ↦ (c.args.pair.after.now, comes_after words c.args.pair row _ behind.0 behind.1, behind.2)
    ]

pub returns-in-Err-clause-missing : goal.returns-in-Err-clause-missing
returns-in-Err-clause-missing g c = λ words file row comes lacks. (
  elim (lacks_one words c.args.pair row _ file comes lacks) [
    | inl old ↦ same_fault c.in-Err.fault (c.in-Err.ensures.missing old)
    | inr new ↦ same_fault c.in-Err.fault (c.in-Err.ensures.missing_after new.0 new.1 new.2)
  ],
  c.requires.pending,
)
