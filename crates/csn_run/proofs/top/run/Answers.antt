use Rattle.std.proofs.Common.{inl, inr, refl, ap, sym, ◌∙◌, subst, map, is_some, Some}
use Rattle.std.specs.String.{string_bytes}
use Rattle.csn_run.specs.Job.{EndsUnread}
use Rattle.csn_io.proofs.Told.{rose_early, rose_late}
use Rattle.csn_run.proofs.CommandLemmas.{no_row, row_some, row_lacks, row_read, command_read}
use Rattle.csn_run.proofs.OldBlocks.{stays_of}
use Rattle.csn_lines.proofs.OutsideLemmas.{keeps_along, keeps_both, keeps_still}
use Rattle.csn_run.proofs.ResultLemmas.{complete_of, nothing_left_of, as_before, bounded_of, untouched, nothing_taken, unread_ends, unwritten_ends}
use Rattle.csn_run.proofs.ResultLemmas.{ok_of, no_fault_bad, no_fault_uncertified, write_stopped}
use Rattle.csn_run.proofs.RanLemmas.{IsOver, none_front, none_promptly, over_feed, over_files, over_front, over_no_usage, over_promptly}
use Rattle.csn_run.proofs.RanLemmas.{over_read, over_result, ran_of, ran_unread}
use Rattle.csn_run.proofs.OneTree.{one_tree_of}
use Rattle.csn_run.proofs.UnreadLemmas.{unread_answered, unread_as, unread_finished, unread_row, unread_usage, unread_wanting}
use Rattle.csn_run.proofs.Apart.{ends_written, ends_provided}
use Rattle.csn_run.proofs.top.run.Goals as goal

pub returns-in-Err : goal.returns-in-Err
returns-in-Err g c =
    let is = c.end_unread.ensures.end in
    let unread = subst (EndsUnread (map string_bytes c.args.words.now)) (sym is) c.in-Err.ensures.unread in
    let same = c.end_unread.ensures.taken_stays in
    let after = record c.args.outside.now { sink = c.end_unread.new.out } in
    record {
      ran = ran_unread g.B.Shelf g.S.Source g.K.Sink _ _ c.args.outside.now after refl same unread
          (λ e. ap (λ k. record c.args.outside.now { sink = k }) (c.end_unread.ensures.usage (sym is ∙ e)))
          (λ used. c.end_unread.ensures.flushes (λ e. used (is ∙ e)));
      usage = unread_usage unread;
      row = unread_row unread;
      alone = λ e. ap (λ k. record c.args.outside.now { sink = k }) (c.end_unread.ensures.usage (sym is ∙ e));
      result = λ finished. absurd (unread_finished unread finished);
      begins = λ used. none_front g.B.Shelf g.S.Source g.K.Sink _ _ c.args.outside.now after refl same;
      reading = λ e. absurd (unread_as unread e);
      prompt = λ used. none_promptly g.B.Shelf g.S.Source g.K.Sink _ _ c.args.outside.now after refl same;
      input_read = λ answered. absurd (unread_answered unread answered);
      before_lines = λ ended. refl;
      no_lines = λ never. refl;
      no_job = λ none. refl;
      bounded = λ whole rest s left. as_before whole rest (sym s ∙ left);
      no_file = λ none. refl;
      fetched = λ named. inr (unread_wanting unread (row_some named), refl);
      one_tree = λ answered. absurd (unread_answered unread answered);
      blocks_stay = λ e. absurd (unread_as unread e);
      missing = λ lacks. (refl, same, inr (inr (unread_wanting unread (row_lacks _ lacks))));
      complete = λ row none. inr (unread_wanting unread row);
      read_fault = λ e. absurd (unread_as unread e);
      write_fault = λ e. absurd (unread_as unread e);
      flushed = λ used no_write no_memory. absurd (no_memory (unread_wanting unread (unread_row unread used)));
      flushes = λ used no_write. c.end_unread.ensures.flushes (λ e. used (is ∙ e));
      faults = record {
        shelf = keeps_still;
        source = keeps_still;
        sink = keeps_along (λ used. inr (inr (unread_wanting unread (unread_row unread (λ e. used (sym is ∙ e)))))) c.end_unread.ensures.out;
      };
    }

pub unreachable-requires : goal.unreachable-requires
unreachable-requires g c =
    no_row _ c.command_of.result c.command_of.ensures.row (ap is_some c.in_default.is)
    (command_read c.deref.ensures.value c.in-Ok.ensures.words c.in-Ok.ensures.row)

pub perform-outcome-requires : goal.perform-outcome-requires
perform-outcome-requires g c =
    record {
      ready = record {
        line = c.new-lines.ensures.line;
        pending = c.new-lines.ensures.pending;
        refused =
            c.new-lines.ensures.refused;
      };
      unfailed = c.requires.unfailed;
      row = (_, c.in-Some.ensures.names);
    }

pub finish-requires : goal.finish-requires
finish-requires g c = record { unfailed = λ no_write. c.perform-outcome.ensures.streams.out.2 no_write ∙ c.requires.unfailed }

pub returns : goal.returns
returns g c =
    let words = map string_bytes c.args.words.now in
    let watchers = map (λ b. (goal.Watcher-dyn g (b.vtable, b.value)).watched b.value) c.args.watchers.items in
    let row = row_read c.in-Some.command c.deref.ensures.value c.in-Ok.ensures.words c.in-Some.ensures.names in
    let done = c.perform-outcome.ensures in
    let handed = c.finish.ensures in
    let took = handed.took in
    let after = record c.args.outside.now { shelf = c.perform-outcome.new.shelf; source = c.perform-outcome.new.input; sink = c.finish.new.out } in
    let told = done.ends words row (g.B.Shelf.files c.args.outside.now.shelf) (inl refl) in
    let over : IsOver g.B.Shelf g.S.Source g.K.Sink words watchers c.args.outside.now after c.perform-outcome.result
    c.finish.result (g.K.Sink.taken c.perform-outcome.new.out) c.perform-outcome.new.lines.pending.items = record {
      row = c.in-Ok.ensures.row;
      job = done.ends words row;
      read = λ e. done.read e words row;
      wrote = λ e. elim (handed.write e) [
        | inl wrote ↦ rose_early _ _ _ (done.streams.write (write_stopped _ told wrote)) handed.out.0
        | inr rose ↦ rose_late _ _ _ done.streams.out.0 rose
      ];
      front = took.0;
      rest = took.1;
      split = took.2;
      handed = took.3;
      all = took.4;
      ended_is = handed.end;
      flushed = handed.flushed;
      flushes = handed.flushes;
    } in
    let each = c.lines_have_one_answer.ensures.some_answer in
    record {
      ran = ran_of g.B.Shelf g.S.Source g.K.Sink words watchers _ after each over;
      usage = (λ e row. over_no_usage g.B.Shelf g.S.Source g.K.Sink words watchers _ after each over e, λ none. absurd (none over.row));
      row = λ used. over.row;
      alone = λ e. absurd (over_no_usage g.B.Shelf g.S.Source g.K.Sink words watchers _ after each over e);
      result = over_result g.B.Shelf g.S.Source g.K.Sink words watchers _ after each over;
      begins = λ used. over_front g.B.Shelf g.S.Source g.K.Sink words watchers _ after each over;
      reading = over_feed g.B.Shelf g.S.Source g.K.Sink words watchers _ after each over;
      prompt = λ used. over_promptly g.B.Shelf g.S.Source g.K.Sink words watchers _ after each over;
      input_read = λ read reads. elim read [
        | inl e ↦ nothing_left_of _ _ _ _ _ _ _ _ _ told (inl (sym (handed.end (ends_written _ _ e tt) (ends_provided _ _ e tt)) ∙ e)) reads
        | inr e ↦ nothing_left_of _ _ _ _ _ _ _ _ _ told (inr (sym (handed.end (ends_written _ _ e tt) (ends_provided _ _ e tt)) ∙ e)) reads
      ];
      before_lines = λ ended. elim ended [
        | inl e ↦ done.streams.before_lines (inl (ok_of _ _ (sym (handed.end (ends_written _ _ e tt) (ends_provided _ _ e tt)) ∙ e) no_fault_bad))
        | inr e ↦ done.streams.before_lines (inr (ok_of _ _ (sym (handed.end (ends_written _ _ e tt) (ends_provided _ _ e tt)) ∙ e) no_fault_uncertified))
      ];
      no_lines = λ never. elim done.streams.touches [ inl same ↦ same | inr reads ↦ absurd (never (reads words row).0) ];
      no_job = λ none. elim done.streams.touches [
        | inl same ↦ same
        | inr reads ↦ untouched c.known.ensures.of_texts words _ watchers _ _ none (inr (reads words row))
      ];
      bounded = λ whole rest s left. bounded_of _ _ _ whole rest _ _ _ _ _ (rw s at told) left;
      no_file = (done.files words row).no_file;
      fetched = λ named. inl ((done.files words row).fetched named.0 named.1);
      one_tree = λ answered. over_files _ (λ files by. elim answered [
        | inl e ↦ one_tree_of c.known.ensures words files _ (done.ends words row (Some files) by)
            (inl (sym (handed.end (ends_written _ _ e tt) (ends_provided _ _ e tt)) ∙ e))
        | inr e ↦ one_tree_of c.known.ensures words files _ (done.ends words row (Some files) by)
            (inr (sym (handed.end (ends_written _ _ e tt) (ends_provided _ _ e tt)) ∙ e))
      ]);
      blocks_stay = λ e. over_files _ (λ files by. stays_of c.known.ensures words files _ (done.ends words row (Some files) by)
          (sym (handed.end (ends_written _ _ e tt) (ends_provided _ _ e tt)) ∙ e));
      missing = λ lacks. (let m = (done.files words row).missing lacks.0 lacks.1 lacks.2 in
          (m.1, nothing_taken _ _ _ _ _ _ (ap g.K.Sink.taken m.2) m.3 took.2 took.3, unread_ends _ _ m.0 handed.end));
      complete = λ row none. complete_of c.finish.result
          (over_no_usage g.B.Shelf g.S.Source g.K.Sink words watchers _ after each over)
          (λ e. elim (over_read g.B.Shelf g.S.Source g.K.Sink words watchers _ after each over e) [
            | inl source ↦ none (inl source)
            | inr file ↦ none (inr (inl file))
          ])
          (λ e. none (inr (inr (over.wrote e))));
      read_fault = over_read g.B.Shelf g.S.Source g.K.Sink words watchers _ after each over;
      write_fault = over.wrote;
      flushed = λ used. handed.flushed;
      flushes = λ used. handed.flushes;
      faults = record {
        shelf = keeps_along (λ e. unread_ends _ _ (inl e) handed.end) done.shelf;
        source = keeps_along (λ e. unread_ends _ _ (inl e) handed.end) done.streams.input;
        sink = keeps_both (λ e. unwritten_ends _ _ e handed.end) (λ e. inr (inl e)) done.streams.out handed.out;
      };
    }
