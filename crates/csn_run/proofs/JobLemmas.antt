-- How jobs are over.
use Rattle.std.proofs.Common.{◌≡◌, ℕ, ◌+◌, ◌<◌, ◌≤◌, ◌⊎◌, Bool, inl, inr, List, [], ◌∷◌, ◌++◌, length, map, Option}
use Rattle.std.proofs.Common.{Some, None, Result, Ok, Err, IfOk, IfErr, OnOk, refl, sym, ◌∙◌, ap, subst, take, arith}
use Rattle.std.specs.List.{AllByRecursion}
use Rattle.std.specs.Option.{option_map}
use Rattle.std.proofs.lemmas.List.{length-take, map-append, take_all}
use Rattle.csn_catalogue.specs.declared.entry.Entry.{Entry}
use Rattle.csn_catalogue.specs.declared.entry.Entry.TheVariants.{Downlink}
use Rattle.csn_catalogue.specs.Entries.{all_entries, entry_root}
use Rattle.csn_catalogue.specs.Text.{catalogue_text}
use Rattle.csn_replay.specs.Watched.{Watched}
use Rattle.csn_desc.specs.declared.reading.Reading.{Reading}
use Rattle.csn_desc.specs.declared.reading.Reading.TheVariants.{Sent}
use Rattle.csn_soak.specs.declared.soaking.Soaked.{Soaked}
use Rattle.csn_soak.specs.Soaking.{IsSoaked}
use Rattle.csn_desc.specs.Nodes.{DescV}
use Rattle.csn_grammar.specs.declared.fault.GrammarFault.TheVariants.{Syntax, NoMemory as no_memory_for_rules}
use Rattle.csn_resolve.specs.declared.fault.ResolveFault.TheVariants.{Refused, NoMemory as no_memory_for_nodes}
use Rattle.csn_grammar.specs.RulesV.{RulesV}
use Rattle.csn_certify.specs.declared.certifying.CertifyFault.TheVariants.{Conflict, NoMemory as no_memory_for_plan}
use Rattle.csn_io.specs.ShelfFault.{BeginsFile}
use Rattle.csn_command.specs.declared.command.RuleWords.{RuleWords}
use Rattle.csn_plan.specs.declared.compiling.NoPlan.{NoPlan}
use Rattle.csn_plan.specs.declared.compiling.NoPlan.TheVariants.{Rules, Description, Plan}
use Rattle.csn_plan.specs.declared.compiling.TheConstants.{MOST_DESCRIPTION}
use Rattle.csn_plan.specs.declared.ended.Ended.{Ended}
use Rattle.csn_plan.specs.declared.ended.Ended.TheVariants.{Done, TooLong as Long}
use Rattle.csn_lines.specs.declared.fault.Fault.{Fault}
use Rattle.csn_lines.specs.declared.fault.Fault.TheVariants.{Read, Write, Memory, TooLong}
use Rattle.csn_run.specs.declared.planned.Unplanned.{Unplanned}
use Rattle.csn_run.specs.declared.planned.Unplanned.TheVariants.{File, Text}
use Rattle.csn_lines.specs.LineState.{Kept, closing}
use Rattle.csn_lines.specs.Progress.{AnswersAll, Stops}
use Rattle.csn_command.specs.declared.command.RuleCommand.{RuleCommand}
use Rattle.csn_command.specs.declared.command.RuleReport.{RuleReport}
use Rattle.csn_command.specs.Command.{IsReport, IsAnswer, IsMigrate, IsSegments, IsReplay, IsSoak, IsOverRule}
use Rattle.csn_command.specs.Command.{over_downlink, over_all, over_soaked, leaves_report, leaves_soak}
use Rattle.csn_plan.specs.Compiled.{RuleOf, rule_of_entry, IsCompiled, HasNoPlan, no_rules, rules_refused, not_certified, IsReason, Tells, AreCompiled}
use Rattle.csn_run.specs.Told.{soaked_line}
use Rattle.csn_run.specs.Planned.{IsPlanned, IsWhy, Refuses}
use Rattle.csn_run.specs.Job.{IsDescription, IsWhole, IsBeforeLines, Asked, EndedBefore, JobEnds, unread, before_lines, all_lines, some_lines}
use Rattle.csn_lines.specs.Jobs.{BeginsJob, LineJob, by_rule, migrating, Steps, beginning, segmenting, replaying}
use Rattle.csn_lines.specs.Work.{LineWork}
use Rattle.csn_lines.specs.Ends.{end_of}
use Rattle.csn_run.specs.Result.{asks_by_rule, asks_migrate, asks_segments, Compiles, of_file, of_catalogue}
use Rattle.csn_run.specs.Result.{long_text, no_plan, no_job, Reports, reported, soaked, asks_replay}
use Rattle.csn_plan.specs.Compiled.{HasJob}

-- ---- what the words ask for over told files

-- a file of which so few bytes were asked for that more were left is longer
pub long_file : (most : ℕ) (files : List ℕ → Option (List ℕ)) (file front : List ℕ)
    → BeginsFile (Some files) file (most + 1) front → most < length front → (text : List ℕ) × (files file ≡ Some text)
    × (most < length text)
long_file most files file front begins long = go (files file) refl begins
  where
    go : (o : Option (List ℕ)) → files file ≡ o → option_map (take (most + 1)) o ≡ Some front → (text : List ℕ)
        × (files file ≡ Some text) × (most < length text)
    go None is e = absurd (cc)
    go (Some text) is e =
        let same : take (most + 1) text ≡ front = cc in
        (text, is, omega (arith, ap length same, long, length-take (most + 1) text))

-- a text that is all in a file is what the file has
pub whole_file : {most : ℕ} (files : List ℕ → Option (List ℕ)) (file text : List ℕ) → IsWhole most (Some files) file text → files file ≡ Some text
whole_file {most} files file text is = go (files file) refl is.front
  where
    go : (o : Option (List ℕ)) → files file ≡ o → option_map (take (most + 1)) o ≡ Some text → files file ≡ Some text
    go None held e = absurd (cc)
    go (Some t) held e =
        let same : take (most + 1) t ≡ text = cc in
        let few : length t ≤ most + 1 = omega (arith, is.fits, ap length same, length-take (most + 1) t) in
        held ∙ ap Some (sym (take_all (most + 1) t few) ∙ same)

-- a command by a plan
pub asked_by_rule :
    (words : List (List ℕ)) (files : Option (List ℕ → Option (List ℕ))) (watchers : List Watched) (command : RuleCommand) (rule : RuleWords) (d : DescV)
    → IsAnswer command words rule.file.now rule.name.now rule.reading → (is : IsPlanned files rule d)
    → Asked words files watchers (by_rule command is.rules rule.name.now rule.reading)
asked_by_rule words None watchers command rule d row is = tt
asked_by_rule words (Some files) watchers command rule d row is =
    asks_by_rule command rule.file.now rule.name.now is.text rule.reading is.rules d row
    (whole_file files rule.file.now is.text is.fetched) is.fetched.fits is.compiled refl

pub asked_migrate : (words : List (List ℕ)) (files : Option (List ℕ → Option (List ℕ))) (watchers : List Watched)
    → IsMigrate words → Asked words files watchers migrating
asked_migrate words None watchers row = tt
asked_migrate words (Some files) watchers row = asks_migrate row refl

-- a report by a plan
pub ended_reported :
    (words : List (List ℕ)) (files : Option (List ℕ → Option (List ℕ))) (report : RuleReport) (rule : RuleWords) (d : DescV) (written : List ℕ)
    → IsReport report words rule.file.now rule.name.now rule.reading → IsPlanned files rule d → Reports report d written
    → EndedBefore words files written Done
ended_reported words None report rule d written row is told =
    inr (inl refl, λ reads. reads (leaves_report report rule.file.now rule.name.now rule.reading row))
ended_reported words (Some files) report rule d written row is told =
    reported report rule.file.now rule.name.now is.text rule.reading is.rules d row
    (whole_file files rule.file.now is.text is.fetched) is.fetched.fits is.compiled told refl

-- the reason why a text gives no plan, with its line
pub no_plan_of :
    (text name : List ℕ) (reading : Reading) (reason : NoPlan) (line : List ℕ) (ended : Ended)
    → IsReason text name reading reason → Tells reason line ended → HasNoPlan text name reading line ended
no_plan_of text name reading (Rules (Syntax place)) line ended is tells = no_rules place is tells.0 tells.1
no_plan_of text name reading (Rules no_memory_for_rules) line ended is tells = absurd tells
no_plan_of text name reading (Description (Refused why place)) line ended is tells = rules_refused is.0 why place is.1 is.2 tells.0 tells.1
no_plan_of text name reading (Description no_memory_for_nodes) line ended is tells = absurd tells
no_plan_of text name reading (Plan (Conflict conflict)) line ended is tells = not_certified is.0 is.1 conflict is.2 is.3 is.4 tells.0 tells.1
no_plan_of text name reading (Plan no_memory_for_plan) line ended is tells = absurd tells

-- it comes before the lines
pub tells_before : (reason : NoPlan) (line : List ℕ) (ended : Ended) → Tells reason line ended → IsBeforeLines ended
tells_before (Rules (Syntax place)) line ended tells = inl tells.1
tells_before (Rules no_memory_for_rules) line ended tells = absurd tells
tells_before (Description (Refused why place)) line ended tells = inl tells.1
tells_before (Description no_memory_for_nodes) line ended tells = absurd tells
tells_before (Plan (Conflict conflict)) line ended tells = inr (inl tells.1)
tells_before (Plan no_memory_for_plan) line ended tells = absurd tells

-- what is compiled of a file that is there
file_compiles :
    (words : List (List ℕ)) (files : List ℕ → Option (List ℕ)) (file name text : List ℕ) (reading : Reading)
    → IsOverRule words file name reading → files file ≡ Some text
    → Compiles words files (record { text = text; name = name; reading = reading } ∷ [])
file_compiles words files file name text reading row held = of_file file name text reading row held refl

-- a text that gives its rule no plan, behind others that give one
ended_by_text :
    (words : List (List ℕ)) (files : Option (List ℕ → Option (List ℕ))) (front : List RuleOf) (rule : RuleOf)
    (behind : List RuleOf) (written : List ℕ) (reason : NoPlan) (line : List ℕ) (ended : Ended)
    → ((told : List ℕ → Option (List ℕ)) → files ≡ Some told → Compiles words told (front ++ rule ∷ behind)) → AllByRecursion HasJob front
    → length rule.text ≤ MOST_DESCRIPTION → IsReason rule.text rule.name rule.reading reason → Tells reason line ended
    → written ≡ line ++ 10 ∷ [] → EndedBefore words files written ended
ended_by_text words None front rule behind written reason line ended compiles before fits reasons tells e = inl (tells_before reason line ended tells)
ended_by_text words (Some files) front rule behind written reason line ended compiles before fits reasons tells e =
    no_job front rule behind (compiles files refl) before (no_plan line fits (no_plan_of rule.text rule.name rule.reading reason line ended reasons tells) e)

-- the job is over before it has a plan, by the text of a rule
pub reason_ends :
    (words : List (List ℕ)) (files : Option (List ℕ → Option (List ℕ))) (watchers : List Watched)
    (front : List RuleOf) (rule : RuleOf) (behind : List RuleOf) (left taken : Option (List ℕ)) (waits : List ℕ)
    (reason : NoPlan) (end : Result Ended Fault)
    → ((told : List ℕ → Option (List ℕ)) → files ≡ Some told → Compiles words told (front ++ rule ∷ behind)) → AllByRecursion HasJob front
    → length rule.text ≤ MOST_DESCRIPTION → IsReason rule.text rule.name rule.reading reason → Refuses (Text reason) waits end
    → JobEnds words files watchers left left taken taken waits end
reason_ends words files watchers front rule behind left taken waits reason (Ok ended) compiles before fits is refuses =
    before_lines (ended_by_text words files front rule behind waits reason refuses.0 ended compiles before fits is refuses.2 refuses.1) refl refl
reason_ends words files watchers front rule behind left taken waits reason (Err fault)
    compiles before fits is refuses = unread refl refl refuses.1 (inr (ap Err refuses.0))

module _ (words : List (List ℕ)) (rule : RuleWords) (row : IsOverRule words rule.file.now rule.name.now rule.reading) where
  ended_by_length :
      (files : Option (List ℕ → Option (List ℕ))) (front written : List ℕ) → written ≡ []
      → BeginsFile files rule.file.now (MOST_DESCRIPTION + 1) front → MOST_DESCRIPTION < length front → EndedBefore words files written Long
  ended_by_length None front written none begins long = inl (inr (inr refl))
  ended_by_length (Some files) front written none begins long =
      let text = long_file MOST_DESCRIPTION files rule.file.now front begins long in
      no_job [] (record { text = text.0; name = rule.name.now; reading = rule.reading }) []
      (file_compiles words files rule.file.now rule.name.now text.0 rule.reading row text.1) tt
      (long_text text.2 none refl)

  -- the job is over before it has a plan
  pub refused_ends :
      (files : Option (List ℕ → Option (List ℕ))) (watchers : List Watched) (left taken : Option (List ℕ))
      (waits : List ℕ) (why : Unplanned) (end : Result Ended Fault)
      → IsWhy files rule why → Refuses why waits end → JobEnds words files watchers left left taken taken waits end
  refused_ends files watchers left taken waits (File fault) end is refuses = by_fault fault is refuses
    where
      by_fault :
          (fault : Fault) → IsWhy files rule (File fault) → Refuses (File fault) waits end
          → JobEnds words files watchers left left taken taken waits end
      by_fault Read is refuses = unread refl refl refuses.1 (inl refuses.0)
      by_fault Write is refuses = absurd (is.0 refl)
      by_fault Memory is refuses = unread refl refl refuses.1 (inr refuses.0)
      by_fault TooLong is refuses =
          let long = is.1 refl in
          let P : Result Ended Fault → Type 0 = λ e. JobEnds words files watchers left left taken taken waits e in
          subst P (sym refuses.0) (before_lines (ended_by_length files long.0 waits refuses.1 long.1 long.2) refl refl)
  refused_ends files watchers left taken waits (Text reason) end is refuses =
      reason_ends words files watchers [] (record { text = is.0; name = rule.name.now; reading = rule.reading }) [] left taken waits reason end
      (λ told e. file_compiles words told rule.file.now rule.name.now is.0 rule.reading row
      (whole_file told rule.file.now is.0
      (subst (λ (f : Option (List ℕ → Option (List ℕ))). IsDescription f rule.file.now is.0) e is.1)))
      tt is.1.fits is.2 refuses

-- what `segments` compiles
pub segments_compile : (words : List (List ℕ)) (files : List ℕ → Option (List ℕ)) (reading : Reading)
    → IsSegments words reading → Compiles words files (rule_of_entry reading Downlink ∷ [])
segments_compile words files reading row = of_catalogue (Downlink ∷ []) reading (over_downlink row refl) refl

-- what `soak` compiles
pub soak_compiles : (words : List (List ℕ)) (files : List ℕ → Option (List ℕ)) (entry : Entry) (n : ℕ)
    → IsSoak words entry n → Compiles words files (rule_of_entry Sent entry ∷ [])
soak_compiles words files entry n row = of_catalogue (entry ∷ []) Sent (over_soaked entry n row refl refl) refl

pub asked_segments :
    (words : List (List ℕ)) (files : Option (List ℕ → Option (List ℕ))) (watchers : List Watched) (reading : Reading)
    (rules : RulesV) (d : DescV) → IsSegments words reading
    → length catalogue_text ≤ MOST_DESCRIPTION → IsCompiled catalogue_text (entry_root Downlink) reading rules d
    → Asked words files watchers (segmenting rules reading)
asked_segments words None watchers reading rules d row fits is = tt
asked_segments words (Some files) watchers reading rules d row fits is = asks_segments reading rules d row fits is refl

-- what `replay` compiles
pub replay_compiles :
    (words : List (List ℕ)) (files : List ℕ → Option (List ℕ)) (reading : Reading) (front : List Entry) (entry : Entry) (behind : List Entry)
    → IsReplay words reading → all_entries ≡ front ++ entry ∷ behind
    → Compiles words files (map (rule_of_entry reading) front ++ rule_of_entry reading entry ∷ map (rule_of_entry reading) behind)
replay_compiles words files reading front entry behind row split =
    of_catalogue all_entries reading (over_all row refl)
    (sym (map-append (rule_of_entry reading) front (entry ∷ behind)) ∙ ap (map (rule_of_entry reading))
    (sym split))

pub asked_replay :
    (words : List (List ℕ)) (files : Option (List ℕ → Option (List ℕ))) (watchers : List Watched) (reading : Reading)
    (rules : RulesV) (plans : List DescV) → IsReplay words reading
    → length catalogue_text ≤ MOST_DESCRIPTION → AreCompiled rules reading all_entries plans
    → Asked words files watchers (replaying rules reading watchers)
asked_replay words None watchers reading rules plans row fits are = tt
asked_replay words (Some files) watchers reading rules plans row fits are = asks_replay reading rules plans row fits are refl

-- ---- ends of jobs

-- the job is over with its lines
pub lines_end :
    (words : List (List ℕ)) (files : Option (List ℕ → Option (List ℕ))) (watchers : List Watched) (job : LineJob)
    {work : LineWork} {kept : Kept} (left left' taken taken' : Option (List ℕ)) (waits : List ℕ) (refused : Bool) (end : Result Ended Fault)
    → Asked words files watchers job
    → OnOk end ((job : LineJob) → BeginsJob job work kept → AnswersAll (Steps job) closing (beginning job) left left' taken taken' waits refused)
    → IfOk end (λ ended. ended ≡ end_of refused)
    → IfErr end (λ fault. (job : LineJob) → BeginsJob job work kept → Stops (Steps job) (beginning job) fault left left' taken taken' waits)
    → BeginsJob job work kept → JobEnds words files watchers left left' taken taken' waits end
lines_end words files watchers job left left' taken taken' waits refused (Ok ended) asked ok ends err begins =
    all_lines job refused asked (ok job begins) (ap Ok ends)
lines_end words files watchers job left left' taken taken' waits refused (Err fault) asked ok ends err begins =
    some_lines job fault asked (err job begins) refl

-- the job of a report is over by a plan
pub report_ends :
    (words : List (List ℕ)) (files : Option (List ℕ → Option (List ℕ))) (watchers : List Watched)
    (report : RuleReport) (rule : RuleWords) (d : DescV) (left taken : Option (List ℕ)) (waits : List ℕ)
    (end : Result Ended Fault)
    → IsReport report words rule.file.now rule.name.now rule.reading → IsPlanned files rule d
    → IfOk end (λ ended. (ended ≡ Done) × Reports report d waits) → IfErr end (λ fault. (fault ≡ Memory) × (waits ≡ []))
    → JobEnds words files watchers left left taken taken waits end
report_ends words files watchers report rule d left taken waits (Ok ended) row is ok err =
    let P : Ended → Type 0 = λ e. EndedBefore words files waits e in
    before_lines (subst P (sym ok.0) (ended_reported words files report rule d waits row is ok.1)) refl refl
report_ends words files watchers report rule d left taken waits (Err fault) row is ok err = unread refl refl err.1 (inr (ap Err err.0))

-- the job of `soak` is over with its counts
pub soak_ends :
    (words : List (List ℕ)) (files : Option (List ℕ → Option (List ℕ))) (watchers : List Watched) (entry : Entry)
    (n : ℕ) (rules : RulesV) (d : DescV) (counts : Soaked) (left taken : Option (List ℕ)) (waits : List ℕ)
    (end : Result Ended Fault)
    → IsSoak words entry n → length catalogue_text ≤ MOST_DESCRIPTION → IsCompiled catalogue_text (entry_root entry) Sent rules d → IsSoaked d entry n counts
    → IfOk end (λ ended. (ended ≡ Done) × (waits ≡ soaked_line n counts ++ 10 ∷ [])) → IfErr end (λ fault. (fault ≡ Memory) × (waits ≡ []))
    → JobEnds words files watchers left left taken taken waits end
soak_ends words None watchers entry n rules d counts left taken waits (Ok ended) row fits is from ok err =
    before_lines (inr (inl ok.0, λ reads. reads (leaves_soak entry n row))) refl refl
soak_ends words (Some files) watchers entry n rules d counts left taken waits (Ok ended) row fits is from ok err =
    before_lines (soaked entry n rules d counts row fits is from ok.1 ok.0) refl refl
soak_ends words files watchers entry n rules d counts left taken waits (Err fault) row fits is from ok err = unread refl refl err.1 (inr (ap Err err.0))

-- ---- a job that is over before it has a plan

-- what could not be read is the file
pub refused_read : (why : Unplanned) (waits : List ℕ) (end : Result Ended Fault) → Refuses why waits end → end ≡ Err Read → why ≡ File Read
refused_read (File fault) waits end refuses e = let same : fault ≡ Read = cc in ap File same
refused_read (Text reason) waits (Ok ended) refuses e = absurd (cc)
refused_read (Text reason) waits (Err fault) refuses e = let clash : Memory ≡ Read = cc in absurd (cc)

-- nothing was written
pub refused_write :
    (files : Option (List ℕ → Option (List ℕ))) (rule : RuleWords) (why : Unplanned) (waits : List ℕ) (end : Result Ended Fault)
    → IsWhy files rule why → Refuses why waits end → end ≡ Err Write → ⊥
refused_write files rule (File fault) waits end is refuses e = let same : fault ≡ Write = cc in is.0 same
refused_write files rule (Text reason) waits (Ok ended) is refuses e = cc
refused_write files rule (Text reason) waits (Err fault) is refuses e = let clash : Memory ≡ Write = cc in cc

-- a file that could not be read, or for which there was no memory
pub refused_missing :
    {T : Type 0} (result : Result T Unplanned) (why : Unplanned) (waits : List ℕ) (end : Result Ended Fault)
    → result ≡ Err why → Refuses why waits end → (result ≡ Err (File Read)) ⊎ (result ≡ Err (File Memory))
    → ((end ≡ Err Read) ⊎ (end ≡ Err Memory)) × (waits ≡ [])
refused_missing {T} result why waits end is refuses (inl e) =
    let same : why ≡ File Read = cc in
    let P : Unplanned → Type 0 = λ w. Refuses w waits end in
    let r = subst P same refuses in (inl r.0, r.1)
refused_missing {T} result why waits end is refuses (inr e) =
    let same : why ≡ File Memory = cc in
    let P : Unplanned → Type 0 = λ w. Refuses w waits end in
    let r = subst P same refuses in (inr r.0, r.1)

-- a job that could not read its file has met a fault of the shelf
pub refused_by_file : {T : Type 0} (result : Result T Unplanned) (why : Unplanned) (waits : List ℕ)
    (end : Result Ended Fault) → result ≡ Err why → Refuses why waits end → result ≡ Err (File Read) → end ≡ Err Read
refused_by_file {T} result why waits end is refuses e =
    let same : why ≡ File Read = cc in
    let P : Unplanned → Type 0 = λ w. Refuses w waits end in
    (subst P same refuses).0
