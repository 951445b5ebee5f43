use Rattle.std.proofs.Common.{◌∙◌, sym, inl, inr}
use Rattle.csn_lines.specs.declared.fault.Fault.TheVariants.{Read, Write}
use Rattle.csn_lines.proofs.OutsideLemmas.{keeps_along, keeps_both}
use Rattle.csn_companion.proofs.Ends.{no_usage, not_written, read_end, rose_then, stopped, then_rose, write_end}
use Rattle.csn_companion.proofs.running.explain.Goals as goal

pub perform-outcome-requires : goal.perform-outcome-requires
perform-outcome-requires g c = record { line = c.new-lines.ensures; unfailed = c.requires.unfailed }

pub finish-requires : goal.finish-requires
finish-requires g c = record { unfailed = λ other. c.perform-outcome.ensures.out.2 other ∙ c.requires.unfailed }

pub returns : goal.returns
returns g c =
    let done = c.perform-outcome.ensures in
    record {
      read_fault = λ e. done.read (read_end _ done.finished (sym (c.finish.ensures.end (λ w. cc) (λ m. cc)) ∙ e));
      write_fault = λ e. elim (c.finish.ensures.write e) [
        | inl is ↦ rose_then (done.write (write_end _ done.finished is)) c.finish.ensures.out.0
        | inr rose ↦ then_rose done.out.0 rose
      ];
      flushed = c.finish.ensures.flushed;
      usage = λ e. no_usage _ done.finished (sym (c.finish.ensures.end (λ w. cc) (λ m. cc)) ∙ e);
      shelf = keeps_along (λ met. stopped _ _ Read c.finish.ensures.end met) done.shelf;
      input = keeps_along (λ met. stopped _ _ Read c.finish.ensures.end met) done.input;
      out = keeps_both (λ met. stopped _ _ Write c.finish.ensures.end met) (λ e. not_written _ e) done.out c.finish.ensures.out;
    }
