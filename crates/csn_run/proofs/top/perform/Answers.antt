use Rattle.std.proofs.Common.{inl, inr, refl, length, ap, arith, None}
use Rattle.csn_lines.specs.Jobs.{migrating}
use Rattle.csn_run.proofs.CommandLemmas.{answer_reads, migrate_reads, pair_named, two_read, comes_to_one, verify_named}
use Rattle.csn_run.proofs.RanLemmas.{asked_told, goes_told}
use Rattle.csn_lines.proofs.OutsideLemmas.{keeps_still}
use Rattle.csn_run.proofs.JobLemmas.{asked_migrate, lines_end}
use Rattle.csn_run.proofs.JobParts.{asks_certificate, asks_none, asks_one, asks_pair, lacking_alone}
use Rattle.csn_run.proofs.JobParts.{streams_alone, streams_of_lines, streams_within}
use Rattle.csn_run.proofs.top.perform.Goals as goal

pub report-requires : goal.report-requires
report-requires g c = record { pending = c.requires.ready.pending }

pub returns-in-Report : goal.returns-in-Report
returns-in-Report g c = record {
  ends = λ words row files by. goes_told (comes_to_one None (inl (c.in-Report.what, rw c.in-Report.is at row)))
      (c.report.ensures.ends words (rw c.in-Report.is at row) _ _ _) by;
  read = λ e words row. inr (c.in-Report.rule.file.now, comes_to_one _ (inl (c.in-Report.what, rw c.in-Report.is at row)), c.report.ensures.read e);
  files = λ words row. asks_one g.B.Shelf _ _
      (inl (c.in-Report.what, rw c.in-Report.is at row)) c.report.ensures.fetched
      (λ lacks. lacking_alone (c.report.ensures.missing lacks));
  shelf = c.report.ensures.shelf;
  streams = streams_alone c.report.ensures.not_write;
}

pub answer_by_rule-requires : goal.answer_by_rule-requires
answer_by_rule-requires g c = record { ready = c.requires.ready; unfailed = c.requires.unfailed }

pub returns-in-Answer : goal.returns-in-Answer
returns-in-Answer g c = record {
  ends = λ words row files by. goes_told (comes_to_one None (inr (c.in-Answer.command, rw c.in-Answer.is at row)))
      (c.answer_by_rule.ensures.ends words _ (rw c.in-Answer.is at row)) by;
  read = λ e words row. elim (c.answer_by_rule.ensures.read e) [
    | inl rose ↦ inl rose
    | inr cannot ↦ inr (c.in-Answer.rule.file.now, comes_to_one _ (inr (c.in-Answer.command, rw c.in-Answer.is at row)), cannot)
  ];
  files = λ words row. asks_one g.B.Shelf _ _
      (inr (c.in-Answer.command, rw c.in-Answer.is at row)) c.answer_by_rule.ensures.fetched
      c.answer_by_rule.ensures.missing;
  shelf = c.answer_by_rule.ensures.shelf;
  streams = streams_within (λ asked words row. (
    answer_reads c.in-Answer.command (rw c.in-Answer.is at row),
    λ files by. asked_told _ (comes_to_one None (inr (c.in-Answer.command, rw c.in-Answer.is at row)))
        (asked words _ (rw c.in-Answer.is at row)) by,
  )) c.answer_by_rule.ensures.streams;
}

pub answer_lines-requires-clause-ready : goal.answer_lines-requires-clause-ready
answer_lines-requires-clause-ready g c = c.requires.ready

pub returns-in-Migrate : goal.returns-in-Migrate
returns-in-Migrate g c =
    let answered = c.answer_lines.ensures in
    record {
      ends = λ words row files by. lines_end words files
          _ migrating _ _ _ _ _ _ _ (asked_migrate words files _ (rw c.in-Migrate.is at row))
          answered.ok answered.end answered.err (record { does = refl; begins = record { bodies = tt; watchers = refl } });
      read = λ e words row. inl (answered.blames.read e);
      files = λ words row. asks_none (omega (arith, ap length (rw c.in-Migrate.is at row)));
      shelf = keeps_still;
      streams = streams_of_lines
          (λ words row. (
            migrate_reads (rw c.in-Migrate.is at row),
            λ files by. (migrating, asked_migrate words files _ (rw c.in-Migrate.is at row)),
          )) _ answered.end answered.blames;
    }

pub answer_segments-requires : goal.answer_segments-requires
answer_segments-requires g c = record { ready = c.requires.ready; unfailed = c.requires.unfailed }

pub returns-in-Segments : goal.returns-in-Segments
returns-in-Segments g c = record {
  ends = λ words row files by. c.answer_segments.ensures.ends words files _ (rw c.in-Segments.is at row);
  read = λ e words row. inl (c.answer_segments.ensures.read e);
  files = λ words row. asks_none (omega (arith, ap length (rw c.in-Segments.is at row)));
  shelf = keeps_still;
  streams = streams_within (λ asked words row. (
    two_read (rw c.in-Segments.is at row),
    λ files by. asked words files _ (rw c.in-Segments.is at row),
  )) c.answer_segments.ensures.streams;
}

pub answer_replay-requires : goal.answer_replay-requires
answer_replay-requires g c = record { ready = c.requires.ready; unfailed = c.requires.unfailed }

pub returns-in-Replay : goal.returns-in-Replay
returns-in-Replay g c = record {
  ends = λ words row files by. c.answer_replay.ensures.ends words files (rw c.in-Replay.is at row);
  read = λ e words row. inl (c.answer_replay.ensures.read e);
  files = λ words row. asks_none (omega (arith, ap length (rw c.in-Replay.is at row)));
  shelf = keeps_still;
  streams = streams_within (λ asked words row. (
    two_read (rw c.in-Replay.is at row),
    λ files by. asked words files (rw c.in-Replay.is at row),
  )) c.answer_replay.ensures.streams;
}

pub soak_entry-requires-clause-pending : goal.soak_entry-requires-clause-pending
soak_entry-requires-clause-pending g c = c.requires.ready.pending

pub returns-in-Soak : goal.returns-in-Soak
returns-in-Soak g c = record {
  ends = λ words row files by. c.soak_entry.ensures.ends words files (rw c.in-Soak.is at row) _ _ _;
  read = λ e words row. absurd (c.soak_entry.ensures.not_read e);
  files = λ words row. asks_none (omega (arith, ap length (rw c.in-Soak.is at row).words_are));
  shelf = keeps_still;
  streams = streams_alone c.soak_entry.ensures.not_write;
}

pub compare_files-requires : goal.compare_files-requires
compare_files-requires g c = record { pending = c.requires.ready.pending }

pub returns-in-Compat : goal.returns-in-Compat
returns-in-Compat g c = record {
  ends = λ words row files by. goes_told (pair_named (rw c.in-Compat.is at row))
      (c.compare_files.ensures.ends words (rw c.in-Compat.is at row) _ _ _) by;
  read = λ e words row. inr (c.compare_files.ensures.read e words (rw c.in-Compat.is at row));
  files =
      λ words row. asks_pair g.B.Shelf _ _ (rw c.in-Compat.is at row)
      (c.compare_files.ensures.fetched words (rw c.in-Compat.is at row))
      (λ file comes lacks. lacking_alone (c.compare_files.ensures.missing words file (rw c.in-Compat.is at row)
      comes lacks));
  shelf = c.compare_files.ensures.shelf;
  streams = streams_alone c.compare_files.ensures.not_write;
}

pub verify_file-requires : goal.verify_file-requires
verify_file-requires g c = record { pending = c.requires.ready.pending }

pub returns-in-Verify : goal.returns-in-Verify
returns-in-Verify g c = record {
  ends = λ words row files by. goes_told (verify_named (rw c.in-Verify.is at row))
      (c.verify_file.ensures.ends words (rw c.in-Verify.is at row) _ _ _) by;
  read = λ e words row. inr (c.verify_file.ensures.read e words (rw c.in-Verify.is at row));
  files =
      λ words row. asks_certificate g.B.Shelf _ _
      (rw c.in-Verify.is at row) (c.verify_file.ensures.fetched words (rw c.in-Verify.is at row))
      (λ file comes lacks. lacking_alone (c.verify_file.ensures.missing words file (rw c.in-Verify.is at row)
      comes lacks));
  shelf = c.verify_file.ensures.shelf;
  streams = streams_alone c.verify_file.ensures.not_write;
}
