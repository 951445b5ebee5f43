-- What a run writes, and how it ends: for the words, the files that they name, the watchers that are handed in and the
-- whole input. The order of the ends is this project's own choice: first the length of the description, then what it is,
-- then the lines.
use Rattle.std.specs.Prelude.{◌≡◌, ℕ, ◌<◌, ◌≤◌, ◌⊎◌, Bool, List, [], ◌∷◌, ◌++◌, length, take, map, codes, Option, Some}
use Rattle.std.specs.List.{AllByRecursion}
use Rattle.csn_catalogue.specs.declared.entry.Entry.{Entry}
use Rattle.csn_catalogue.specs.declared.entry.Entry.TheVariants.{Downlink}
use Rattle.csn_catalogue.specs.Entries.{all_entries, entry_root}
use Rattle.csn_catalogue.specs.Text.{catalogue_text}
use Rattle.csn_certmake.specs.Claimed.{IsCertificateText}
use Rattle.csn_desc.specs.declared.reading.Reading.{Reading}
use Rattle.csn_desc.specs.declared.reading.Reading.TheVariants.{Sent}
use Rattle.csn_desc.specs.Nodes.{DescV}
use Rattle.csn_desc.specs.TreeV.{TreeV}
use Rattle.csn_grammar.specs.RulesV.{RulesV}
use Rattle.csn_grammar.specs.Place.{HasRules}
use Rattle.csn_grammar.specs.Strings.{Strings}
use Rattle.csn_replay.specs.Watched.{Watched}
use Rattle.csn_soak.specs.declared.soaking.Soaked.{Soaked}
use Rattle.csn_soak.specs.Soaking.{IsSoaked}
use Rattle.csn_plan.specs.declared.ended.Ended.{Ended}
use Rattle.csn_plan.specs.declared.ended.Ended.TheVariants.{Done, SomeRefused, Usage, BadDescription, NotCertified, ReadFault, WriteFault, NoMemory, TooLong}
use Rattle.csn_lines.specs.declared.lines.TheConstants.{LINE_FEED, MOST_INPUT}
use Rattle.csn_plan.specs.declared.compiling.TheConstants.{MOST_DESCRIPTION}
use Rattle.csn_run.specs.declared.verifying.TheConstants.{MOST_CERTIFICATE}
use Rattle.csn_resolve.specs.Resolved.{IsResolved}
use Rattle.csn_command.specs.declared.command.RuleCommand.{RuleCommand}
use Rattle.csn_command.specs.declared.command.RuleReport.{RuleReport}
use Rattle.csn_command.specs.declared.command.RuleReport.TheVariants.{Check, Certificate}
use Rattle.csn_command.specs.Command.{IsReport, IsAnswer, IsMigrate, IsSegments, IsSoak, IsOverRule, IsOverEntries, IsReplay, IsCompat, IsVerify, NamesFiles}
use Rattle.csn_plan.specs.Compiled.{RuleOf, rule_of_entry, HasJob, IsCompiled, HasNoPlan, certified_line, AreCompiled}
use Rattle.csn_run.specs.Told.{soaked_line, Compares, Verifies}
use Rattle.csn_lines.specs.Ends.{end_of}
use Rattle.csn_lines.specs.Lines.{between_feeds}
use Rattle.csn_lines.specs.Jobs.{LineJob, by_rule, migrating, segmenting, replaying, Steps, beginning}
use Rattle.csn_lines.specs.LineState.{LineState, closing}
use Rattle.csn_json.specs.declared.form.TreeForm.TheVariants.{Text}
use Rattle.csn_lines.specs.Language.{of_rule}
use Rattle.csn_lines.specs.OutLine.{ShowsLine}
use Rattle.csn_lines.specs.Progress.{Answers, EndsIn, KeepsUp, StopsAfter}

-- the words ask for this job, with these watchers. By a rule the file that they name is there, is no longer than a
-- description may be, and the rule that they name has a certified description; for `segments` the rule of the catalogue
-- has one, and for `replay` the rules of all entries. No other job has watchers
pub data AsksFor (words : List (List ℕ)) (files : List ℕ → Option (List ℕ)) (watchers : List Watched) (job : LineJob) : Type 0 where
  asks_by_rule : (command : RuleCommand) (file name text : List ℕ) (reading : Reading) (rules : RulesV) (d : DescV)
      → IsAnswer command words file name reading → files file ≡ Some text → length text ≤ MOST_DESCRIPTION
      → IsCompiled text name reading rules d → job ≡ by_rule command rules name reading → AsksFor words files watchers job
  asks_migrate : IsMigrate words → job ≡ migrating → AsksFor words files watchers job
  asks_segments : (reading : Reading) (rules : RulesV) (d : DescV) → IsSegments words reading
      → length catalogue_text ≤ MOST_DESCRIPTION → IsCompiled catalogue_text (entry_root Downlink) reading rules d
      → job ≡ segmenting rules reading → AsksFor words files watchers job
  asks_replay : (reading : Reading) (rules : RulesV) (plans : List DescV) → IsReplay words reading
      → length catalogue_text ≤ MOST_DESCRIPTION → AreCompiled rules reading all_entries plans
      → job ≡ replaying rules reading watchers → AsksFor words files watchers job

-- what a job writes: what all lines of the input give, and then what closes it; of an input past its limit, what the
-- lines give that end within it, and nothing behind that
pub data AnswersInput (job : LineJob) (input written : List ℕ) (ended : Ended) : Type 0 where
  answers_all : (text : List ℕ) (after : LineState) (refused : Bool) → length input ≤ MOST_INPUT
      → Answers (Steps job) (beginning job) (between_feeds input) text after refused
      → written ≡ text ++ closing after → ended ≡ end_of refused → AnswersInput job input written ended
  answers_front : (lines : List (List ℕ)) (line : List ℕ) (after : LineState) (refused : Bool) → MOST_INPUT < length input
      → EndsIn (take MOST_INPUT input) lines line → Answers (Steps job) (beginning job) lines written after refused
      → ended ≡ TooLong → AnswersInput job input written ended

-- what a command over a rule writes for the text of its file, and how it ends, where the text gives it no certified
-- description
pub data HasNoJob (text name : List ℕ) (reading : Reading) (written : List ℕ) (ended : Ended) : Type 0 where
  long_text : MOST_DESCRIPTION < length text → written ≡ [] → ended ≡ TooLong → HasNoJob text name reading written ended
  no_plan : (line : List ℕ) → length text ≤ MOST_DESCRIPTION → HasNoPlan text name reading line ended
      → written ≡ line ++ LINE_FEED ∷ [] → HasNoJob text name reading written ended

-- the file is there and is no longer than a description may be, and the rule has this description
pub record IsDescribed (files : List ℕ → Option (List ℕ)) (file name text : List ℕ) (reading : Reading) (rules : RulesV) (d : DescV) : Type 0 where
  pub held : files file ≡ Some text
  pub fits : length text ≤ MOST_DESCRIPTION
  pub has_rules : HasRules text rules
  pub resolved : IsResolved rules name reading d

-- over files that are told, a run of the words comes to ask for this file: it is the first that the words name; or the
-- second of `compat`, where the first is there and is no longer than a description may be; or that of the certificate,
-- where the rule besides has a description
pub data ComesToFile (words : List (List ℕ)) (files : List ℕ → Option (List ℕ)) (file : List ℕ) : Type 0 where
  comes_first : (behind : List (List ℕ)) → NamesFiles words (file ∷ behind) → ComesToFile words files file
  comes_second : (before name text : List ℕ) (reading : Reading) → IsCompat words before file name reading
      → files before ≡ Some text → length text ≤ MOST_DESCRIPTION → ComesToFile words files file
  comes_certificate : (description name text : List ℕ) (reading : Reading) (rules : RulesV) (d : DescV)
      → IsVerify words description name reading file → IsDescribed files description name text reading rules d
      → ComesToFile words files file

-- what a run compiles before it comes to a line, in this order: the rule that the words name, of the file that is
-- there, or of both files where neither text is too long; or rules of the catalogue
pub data Compiles (words : List (List ℕ)) (files : List ℕ → Option (List ℕ)) (all : List RuleOf) : Type 0 where
  of_file : (file name text : List ℕ) (reading : Reading) → IsOverRule words file name reading → files file ≡ Some text
      → all ≡ record { text = text; name = name; reading = reading } ∷ [] → Compiles words files all
  of_catalogue : (entries : List Entry) (reading : Reading) → IsOverEntries words entries reading
      → all ≡ map (rule_of_entry reading) entries → Compiles words files all
  of_pair : (before after name was now : List ℕ) (reading : Reading) → IsCompat words before after name reading
      → files before ≡ Some was → files after ≡ Some now → length was ≤ MOST_DESCRIPTION → length now ≤ MOST_DESCRIPTION
      → all ≡ record { text = was; name = name; reading = reading } ∷ record { text = now; name = name; reading = reading } ∷ []
      → Compiles words files all

-- a report on a rule writes this of its certified description: a line that tells of it, or its certificate
abbrev pub Reports : RuleReport → DescV → List ℕ → Type 0
Reports Check d written = written ≡ certified_line d ++ LINE_FEED ∷ []
Reports Certificate d written = IsCertificateText d written

-- what `compat` writes for the rule of two files, and how it ends, where the rule is certified in both or a text is too
-- long. Both texts are measured before one is compiled, the old one first
pub data EndsPair (files : List ℕ → Option (List ℕ)) (before after name : List ℕ) (reading : Reading) (written : List ℕ) (ended : Ended) : Type 0 where
  long_before : (was : List ℕ) → files before ≡ Some was → MOST_DESCRIPTION < length was → written ≡ [] → ended ≡ TooLong
      → EndsPair files before after name reading written ended
  long_after : (was now : List ℕ) → files before ≡ Some was → length was ≤ MOST_DESCRIPTION → files after ≡ Some now
      → MOST_DESCRIPTION < length now → written ≡ [] → ended ≡ TooLong → EndsPair files before after name reading written ended
  compared : (was now line : List ℕ) (rules others : RulesV) (d e : DescV) → files before ≡ Some was
      → files after ≡ Some now → length was ≤ MOST_DESCRIPTION → length now ≤ MOST_DESCRIPTION
      → IsCompiled was name reading rules d → IsCompiled now name reading others e → Compares d e line ended
      → written ≡ line ++ LINE_FEED ∷ [] → EndsPair files before after name reading written ended

-- what `verify` writes for a rule and a certificate, and how it ends. The description is gone through, but not certified,
-- before the certificate is asked for
pub data EndsVerify (files : List ℕ → Option (List ℕ)) (file name : List ℕ) (reading : Reading) (certificate written : List ℕ) (ended : Ended) : Type 0 where
  no_description : (text : List ℕ) → files file ≡ Some text → HasNoJob text name reading written ended
      → ¬ (ended ≡ NotCertified) → EndsVerify files file name reading certificate written ended
  long_certificate : (text bytes : List ℕ) (rules : RulesV) (d : DescV) → IsDescribed files file name text reading rules d
      → files certificate ≡ Some bytes → MOST_CERTIFICATE < length bytes → written ≡ [] → ended ≡ TooLong
      → EndsVerify files file name reading certificate written ended
  verified : (text bytes line : List ℕ) (rules : RulesV) (d : DescV) → IsDescribed files file name text reading rules d
      → files certificate ≡ Some bytes → length bytes ≤ MOST_CERTIFICATE → Verifies d bytes line ended
      → written ≡ line ++ LINE_FEED ∷ [] → EndsVerify files file name reading certificate written ended

-- what a run writes, and how it ends, where it comes to no line of the input and the files that its words name are
-- there: by the first of what it compiles that is not certified, or where all is well and the command reads none
pub data EndsBefore (words : List (List ℕ)) (files : List ℕ → Option (List ℕ)) (written : List ℕ) (ended : Ended) : Type 0 where
  no_job : (front : List RuleOf) (rule : RuleOf) (behind : List RuleOf) → Compiles words files (front ++ rule ∷ behind)
      → AllByRecursion HasJob front → HasNoJob rule.text rule.name rule.reading written ended
      → EndsBefore words files written ended
  reported : (report : RuleReport) (file name text : List ℕ) (reading : Reading) (rules : RulesV) (d : DescV)
      → IsReport report words file name reading → files file ≡ Some text → length text ≤ MOST_DESCRIPTION
      → IsCompiled text name reading rules d → Reports report d written → ended ≡ Done → EndsBefore words files written ended
  soaked : (entry : Entry) (n : ℕ) (rules : RulesV) (d : DescV) (counts : Soaked) → IsSoak words entry n
      → length catalogue_text ≤ MOST_DESCRIPTION → IsCompiled catalogue_text (entry_root entry) Sent rules d → IsSoaked d entry n counts
      → written ≡ soaked_line n counts ++ LINE_FEED ∷ [] → ended ≡ Done → EndsBefore words files written ended
  of_two : (before after name : List ℕ) (reading : Reading) → IsCompat words before after name reading
      → EndsPair files before after name reading written ended → EndsBefore words files written ended
  of_certificate : (file name : List ℕ) (reading : Reading) (certificate : List ℕ) → IsVerify words file name reading certificate
      → EndsVerify files file name reading certificate written ended → EndsBefore words files written ended

-- what a run writes, and how it ends, where each file that its words name is there: it comes to no line,
-- or answers the lines of the input
pub data Result (words : List (List ℕ)) (files : List ℕ → Option (List ℕ)) (watchers : List Watched) (input written : List ℕ) (ended : Ended) : Type 0 where
  no_line : EndsBefore words files written ended → Result words files watchers input written ended
  lines : (job : LineJob) → AsksFor words files watchers job → AnswersInput job input written ended
      → Result words files watchers input written ended

-- the ends after which a job is done, or all of it that can be
abbrev pub IsFinished : Ended → Type 0
IsFinished Done = Unit {0}
IsFinished SomeRefused = Unit {0}
IsFinished Usage = ⊥
IsFinished BadDescription = Unit {0}
IsFinished NotCertified = Unit {0}
IsFinished ReadFault = ⊥
IsFinished WriteFault = ⊥
IsFinished NoMemory = ⊥
IsFinished TooLong = Unit {0}

-- the ends of a run that was stopped before its job was done
abbrev pub IsStopped : Ended → Type 0
IsStopped ended = (ended ≡ ReadFault) ⊎ ((ended ≡ WriteFault) ⊎ (ended ≡ NoMemory))

-- what stands written however a run ended: nothing, or the front of what a whole run writes
pub data BeginsResult (words : List (List ℕ)) (files : List ℕ → Option (List ℕ)) (watchers : List Watched) (input written : List ℕ) : Type 0 where
  begins_none : written ≡ [] → BeginsResult words files watchers input written
  begins_whole : (rest : List ℕ) (ended : Ended) → Result words files watchers input (written ++ rest) ended
      → BeginsResult words files watchers input written

-- what stands written after a fault of the source, which had given these bytes: the answers to the lines
-- that had ended in them, and nothing else
pub record AnswersGiven (words : List (List ℕ)) (files : List ℕ → Option (List ℕ)) (watchers : List Watched) (given written : List ℕ) : Type 0 where
  pub job : LineJob
  pub asked : AsksFor words files watchers job
  pub stopped : StopsAfter (Steps job) (beginning job) given written

-- a run of which a fault stopped the reading: nothing of the input was read and nothing is written, or the source had given
-- some bytes
pub data StopsReading (words : List (List ℕ)) (files : List ℕ → Option (List ℕ)) (watchers : List Watched)
    (given written : List ℕ) : Type 0 where
  before_reading : given ≡ [] → written ≡ [] → StopsReading words files watchers given written
  while_reading : AnswersGiven words files watchers given written → StopsReading words files watchers given written

-- a run that keeps no answer back, however it ended: nothing of the input was read, or what is written begins with the
-- answers to the lines that had ended before the last piece of what the source gave
pub data AnswersPromptly (words : List (List ℕ)) (files : List ℕ → Option (List ℕ)) (watchers : List Watched)
    (given written : List ℕ) : Type 0 where
  nothing_read : given ≡ [] → AnswersPromptly words files watchers given written
  some_read : (job : LineJob) → AsksFor words files watchers job → KeepsUp (Steps job) (beginning job) given written
      → AnswersPromptly words files watchers given written

-- a run of the words goes by this rule: it compiles it, or it is the rule of `verify`
pub data GoesBy (words : List (List ℕ)) (files : List ℕ → Option (List ℕ)) (rule : RuleOf) : Type 0 where
  goes_by_compiled : (front behind : List RuleOf) → Compiles words files (front ++ rule ∷ behind) → GoesBy words files rule
  goes_by_verified : (file certificate : List ℕ) → IsVerify words file rule.name rule.reading certificate
      → files file ≡ Some rule.text → GoesBy words files rule

-- by each rule that a run of the words goes by, bits of any length have at most one tree
abbrev pub RulesHaveOneTree : List (List ℕ) → (List ℕ → Option (List ℕ)) → Type 0
RulesHaveOneTree words files =
    (rule : RuleOf) (rules : RulesV) → GoesBy words files rule → HasRules rule.text rules
    → (b : List ℕ) (t u : TreeV) → Strings rules rule.name rule.reading b t → Strings rules rule.name rule.reading b u → t ≡ u

-- each block that has a tree by the first rule has one by the second, and each line that `show` answers by a tree, it
-- answers by one
pub record BlocksStay (rules others : RulesV) (name : List ℕ) (reading : Reading) : Type 0 where
  pub strings : (b : List ℕ) (t : TreeV) → Strings rules name reading b t → (u : TreeV) × Strings others name reading b u
  pub shown : (line text : List ℕ) → ShowsLine Text (of_rule rules name reading) line (codes "ok " ++ text)
      → (other : List ℕ) × ShowsLine Text (of_rule others name reading) line (codes "ok " ++ other)

-- so it is with the rule of the old file and that of the new one, where the words are `compat`
abbrev pub OldBlocksStay : List (List ℕ) → (List ℕ → Option (List ℕ)) → Type 0
OldBlocksStay words files =
    (before after name was now : List ℕ) (reading : Reading) (rules others : RulesV)
    → IsCompat words before after name reading → files before ≡ Some was → files after ≡ Some now
    → HasRules was rules → HasRules now others
    → BlocksStay rules others name reading
