-- What a run did, from how its job was over and what was handed on then.
use Rattle.std.proofs.Common.{◌≡◌, ◌≢◌, ◌⊎◌, inl, inr, ℕ, List, [], ◌++◌, Option, Some, None, Result, Err, refl, sym, ◌∙◌, subst}
use Rattle.csn_io.specs.Put.{Appended}
use Rattle.csn_io.specs.declared.shelf.Shelf.{Ghosts as Shelves}
use Rattle.csn_io.specs.declared.source.Source.{Ghosts as Sources}
use Rattle.csn_io.specs.declared.sink.Sink.{Ghosts as Sinks}
use Rattle.csn_replay.specs.Watched.{Watched}
use Rattle.csn_plan.specs.declared.ended.Ended.{Ended}
use Rattle.csn_plan.specs.declared.ended.Ended.TheVariants.{Done, SomeRefused, Usage, BadDescription, NotCertified}
use Rattle.csn_plan.specs.declared.ended.Ended.TheVariants.{ReadFault, WriteFault, NoMemory, TooLong as Long}
use Rattle.csn_lines.specs.declared.fault.Fault.{Fault}
use Rattle.csn_lines.specs.declared.fault.Fault.TheVariants.{Read}
use Rattle.csn_lines.proofs.OutsideLemmas.{Appended-nil}
use Rattle.csn_command.specs.Command.{IsCommand, NamesFile}
use Rattle.csn_run.specs.declared.outside.Outside.{Outside}
use Rattle.csn_lines.specs.Jobs.{LineJob}
use Rattle.csn_run.specs.Job.{Asked, EndsUnread, JobEnds, ends_usage, ends_wanting, end_with}
use Rattle.csn_run.specs.Laws.{LinesHaveAnswers}
use Rattle.csn_run.specs.Outside.{GoesByFiles, IsAskedToFlush, IsFlushed, OverFiles, SinkFails, SourceFails}
use Rattle.csn_run.specs.Ran.{FileFails, Ran, WritesFront, WritesPromptly}
use Rattle.csn_run.specs.Ran.{WritesResult, WritesToFeed, words_refused, job_finished, source_failed, file_failed, sink_failed, memory_wanted}
use Rattle.csn_run.specs.Result.{IsFinished, begins_none, nothing_read}
use Rattle.csn_run.proofs.Apart.{ends_provided, ends_written}
use Rattle.csn_run.proofs.ResultLemmas.{begun_of, finished_no_memory, finished_no_write, handed_all, not_usage, passes_front}
use Rattle.csn_run.proofs.ResultLemmas.{prompt_of, read_of, read_stopped, result_of}

-- what holds over the files by which a run goes
pub over_files : {words : List (List ℕ)} {P : (List ℕ → Option (List ℕ)) → Type 0} (told : Option (List ℕ → Option (List ℕ)))
    → ((files : List ℕ → Option (List ℕ)) → GoesByFiles words told (Some files) → P files) → OverFiles words told P
over_files None holds = λ none files. holds files (inr none)
over_files (Some files) holds = holds files (inl refl)

-- words that name a file go by the files that are told
pub goes_told :
    {words : List (List ℕ)} {file : List ℕ} {told files : Option (List ℕ → Option (List ℕ))} {watchers : List Watched}
    {left left' taken taken' : Option (List ℕ)} {waits : List ℕ} {end : Result Ended Fault}
    → NamesFile words file → JobEnds words told watchers left left' taken taken' waits end → GoesByFiles words told files
    → JobEnds words files watchers left left' taken taken' waits end
goes_told {words = words} {watchers = watchers} {left} {left'} {taken} {taken'} {waits} {end} named ends (inl same) =
    let P : Option (List ℕ → Option (List ℕ)) → Type 0 = λ f. JobEnds words f watchers left left' taken taken' waits end in subst P same ends
goes_told {file = file} named ends (inr none) = absurd (none file named)

pub asked_told :
    {words : List (List ℕ)} {file : List ℕ} {told files : Option (List ℕ → Option (List ℕ))} (watchers : List Watched)
    → NamesFile words file → (job : LineJob) × Asked words told watchers job → GoesByFiles words told files
    → (job : LineJob) × Asked words files watchers job
asked_told {words = words} watchers named asked (inl same) =
    let P : Option (List ℕ → Option (List ℕ)) → Type 0 = λ f. Asked words f watchers asked.0 in (asked.0, subst P same asked.1)
asked_told {file = file} watchers named asked (inr none) = absurd (none file named)

module _ {B S K : Type 0} (shelves : Shelves B) (sources : Sources S) (sinks : Sinks K) (words : List (List ℕ)) (watchers : List Watched)
    (before after : Outside B S K) where
  -- a job that is over, and what was handed on then
  pub record IsOver (end : Result Ended Fault) (ended : Ended) (taken' : Option (List ℕ)) (waits : List ℕ) : Type 0 where
    pub row : IsCommand words
    pub job : (files : Option (List ℕ → Option (List ℕ))) → GoesByFiles words (shelves.files before.shelf) files
        → JobEnds words files watchers (sources.left before.source) (sources.left after.source) (sinks.taken before.sink) taken' waits end
    pub read : end ≡ Err Read → SourceFails sources before.source after.source ⊎ FileFails shelves words before.shelf after.shelf
    pub wrote : ended ≡ WriteFault → SinkFails sinks before.sink after.sink
    pub front : List ℕ
    pub rest : List ℕ
    pub split : waits ≡ front ++ rest
    pub handed : Appended taken' (sinks.taken after.sink) front
    pub all : ended ≢ WriteFault → ended ≢ NoMemory → rest ≡ []
    pub ended_is : ended ≢ WriteFault → ended ≢ NoMemory → ended ≡ end_with end
    pub flushed : ended ≢ WriteFault → ended ≢ NoMemory → IsFlushed sinks after.sink
    pub flushes : ended ≢ WriteFault → IsAskedToFlush sinks after.sink

  module _ (each : LinesHaveAnswers) {end : Result Ended Fault} {ended : Ended} {taken' : Option (List ℕ)} {waits : List ℕ}
      (over : IsOver end ended taken' waits) where
    -- by the files that the shelf tells, if it tells them
    pub job_told : JobEnds words (shelves.files before.shelf) watchers (sources.left before.source) (sources.left after.source)
        (sinks.taken before.sink) taken' waits end
    job_told = over.job (shelves.files before.shelf) (inl refl)

    pub over_result : IsFinished ended → WritesResult shelves sources sinks words watchers before after ended
    over_result finished =
        let no_write = finished_no_write ended finished in
        let no_memory = finished_no_memory ended finished in
        over_files (shelves.files before.shelf) (λ files by. result_of words files watchers _ _ _ _ _ waits end ended
        (over.job (Some files) by) (handed_all _ _ _ _ _ over.split over.handed (over.all no_write no_memory))
        (over.ended_is no_write no_memory) finished)

    pub over_front : WritesFront shelves sources sinks words watchers before after
    over_front = over_files (shelves.files before.shelf) (λ files by. begun_of words files watchers _ _ _ _ _ each waits
        over.front over.rest end (over.job (Some files) by) over.split over.handed)

    pub over_feed : ended ≡ ReadFault → WritesToFeed shelves sources sinks words watchers before after
    over_feed is =
        let no_write = ends_written _ _ is tt in
        let no_memory = ends_provided _ _ is tt in
        over_files (shelves.files before.shelf) (λ files by. read_of words files watchers _ _ _ _ _ waits end
        (over.job (Some files) by) (handed_all _ _ _ _ _ over.split over.handed (over.all no_write no_memory))
        (sym is ∙ over.ended_is no_write no_memory))

    pub over_promptly : WritesPromptly shelves sources sinks words watchers before after
    over_promptly = over_files (shelves.files before.shelf) (λ files by. prompt_of words files watchers _ _ _ _ _ waits
        over.front end (over.job (Some files) by) over.handed)

    pub over_no_usage : ended ≡ Usage → ⊥
    over_no_usage e = not_usage end job_told (sym (over.ended_is (ends_written _ _ e tt) (ends_provided _ _ e tt)) ∙ e)

    -- a read fault is shown by the source, or by a file
    pub over_read : ended ≡ ReadFault → SourceFails sources before.source after.source ⊎ FileFails shelves words before.shelf after.shelf
    over_read e = over.read (read_stopped end job_told (sym (over.ended_is (ends_written _ _ e tt) (ends_provided _ _ e tt)) ∙ e))

    ran_read : ended ≡ ReadFault → SourceFails sources before.source after.source ⊎ FileFails shelves words before.shelf after.shelf
        → Ran shelves sources sinks words watchers before after ended
    ran_read e (inl source) = source_failed over.row e source (over_feed e) (over.flushed (ends_written _ _ e tt) (ends_provided _ _ e tt))
    ran_read e (inr file) = file_failed over.row e file (over_feed e) (over.flushed (ends_written _ _ e tt) (ends_provided _ _ e tt))

    ran_done : IsFinished ended → Ran shelves sources sinks words watchers before after ended
    ran_done finished = job_finished over.row finished (over_result finished)
        (over.flushed (finished_no_write ended finished) (finished_no_memory ended finished))

    pub ran_of : Ran shelves sources sinks words watchers before after ended
    ran_of = by_end ended refl
      where
        by_end : (end : Ended) → ended ≡ end → Ran shelves sources sinks words watchers before after ended
        by_end Done e = ran_done (subst IsFinished (sym e) tt)
        by_end SomeRefused e = ran_done (subst IsFinished (sym e) tt)
        by_end Usage e = absurd (over_no_usage e)
        by_end BadDescription e = ran_done (subst IsFinished (sym e) tt)
        by_end NotCertified e = ran_done (subst IsFinished (sym e) tt)
        by_end ReadFault e = ran_read e (over_read e)
        by_end WriteFault e = sink_failed over.row e (over.wrote e) over_front
        by_end NoMemory e = memory_wanted over.row e over_front (over.flushes (λ w. let clash : WriteFault ≡ NoMemory = sym w ∙ e in cc))
        by_end Long e = ran_done (subst IsFinished (sym e) tt)

  -- nothing was read and nothing written
  module _ (same : sources.left after.source ≡ sources.left before.source) (taken : sinks.taken after.sink ≡ sinks.taken before.sink) where
    none_taken : Appended (sinks.taken before.sink) (sinks.taken after.sink) []
    none_taken = taken ∙ Appended-nil (sinks.taken before.sink)

    pub none_front : WritesFront shelves sources sinks words watchers before after
    none_front = over_files (shelves.files before.shelf) (λ files by. passes_front _ _ _ _ _ [] same refl none_taken (λ rest. begins_none refl))

    pub none_promptly : WritesPromptly shelves sources sinks words watchers before after
    none_promptly = over_files (shelves.files before.shelf) (λ files by. passes_front _ _ _ _ _ [] same refl none_taken (λ rest. nothing_read refl))

    -- a run that comes to no job
    pub ran_unread : {ended : Ended} → EndsUnread words ended → (ended ≡ Usage → after ≡ before) → (ended ≢ Usage → IsAskedToFlush sinks after.sink)
        → Ran shelves sources sinks words watchers before after ended
    ran_unread (ends_usage is none) alone flushes = words_refused is none (alone is)
    ran_unread (ends_wanting is row) alone flushes =
        memory_wanted row is none_front (flushes (λ e. let clash : NoMemory ≡ Usage = sym is ∙ e in cc))
