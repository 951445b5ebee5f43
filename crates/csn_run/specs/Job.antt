-- What a job has done with the outside when it is over, before the answers that still wait are handed on.
use Rattle.std.specs.Prelude.{◌≡◌, ℕ, ◌+◌, ◌<◌, ◌≤◌, ◌⊎◌, Bool, List, [], ◌∷◌, length, Option, Some, None, Result, Ok, Err, Vec}
use Rattle.std.specs.declared.alloc.Global.{Global}
use Rattle.csn_io.specs.ShelfFault.{BeginsFile, LacksFile}
use Rattle.csn_io.specs.declared.shelf.Shelf.{Ghosts as Shelves}
use Rattle.csn_io.specs.declared.sink.Sink.{Ghosts as Sinks}
use Rattle.csn_io.specs.declared.source.Source.{Ghosts as Sources}
use Rattle.csn_desc.specs.declared.reading.Reading.{Reading}
use Rattle.csn_desc.specs.Nodes.{DescV}
use Rattle.csn_grammar.specs.RulesV.{RulesV}
use Rattle.csn_grammar.specs.Place.{HasRules}
use Rattle.csn_resolve.specs.Resolved.{IsResolved}
use Rattle.csn_replay.specs.Watched.{Watched}
use Rattle.csn_plan.specs.declared.ended.Ended.{Ended}
use Rattle.csn_plan.specs.declared.ended.Ended.TheVariants.{Done, SomeRefused, Usage, BadDescription, NotCertified, NoMemory, TooLong as Long}
use Rattle.csn_lines.specs.declared.fault.Fault.{Fault}
use Rattle.csn_lines.specs.declared.fault.Fault.TheVariants.{Read, Write, Memory}
use Rattle.csn_plan.specs.declared.compiling.TheConstants.{MOST_DESCRIPTION}
use Rattle.csn_run.specs.declared.verifying.TheConstants.{MOST_CERTIFICATE}
use Rattle.csn_command.specs.Command.{IsCommand, IsCompat, IsVerify, NamesFile, NamesFiles, ReadsLines}
use Rattle.csn_lines.specs.Ends.{end_by, end_of}
use Rattle.csn_lines.specs.LineState.{closing}
use Rattle.csn_run.specs.Outside.{KeepsSink, KeepsSource, LeftByFetch, NamesNone, SinkFails}
use Rattle.csn_lines.specs.Progress.{AnswersAll, Stops}
use Rattle.csn_lines.specs.Jobs.{LineJob, Steps, beginning}
use Rattle.csn_run.specs.Result.{AsksFor, ComesToFile, EndsBefore}

-- the text is all that is in a file, and has at most so many bytes
pub record IsWhole (most : ℕ) (files : Option (List ℕ → Option (List ℕ))) (file text : List ℕ) : Type 0 where
  pub front : BeginsFile files file (most + 1) text
  pub fits : length text ≤ most

-- a file has more bytes than so many
abbrev pub IsLonger : ℕ → Option (List ℕ → Option (List ℕ)) → List ℕ → Type 0
IsLonger most files file = (front : List ℕ) × BeginsFile files file (most + 1) front × (most < length front)

-- the text is the whole description in a file
abbrev pub IsDescription : Option (List ℕ → Option (List ℕ)) → List ℕ → List ℕ → Type 0
IsDescription = IsWhole MOST_DESCRIPTION

-- a shelf that comes of one call, which gave all of the description in this file
pub record GivesDescription {B : Type 0} (shelves : Shelves B) (file text : List ℕ) (before after : B) : Type 0 where
  pub bytes : Vec ℕ Global
  pub given : shelves.fetch_gives before file (MOST_DESCRIPTION + 1) (Ok bytes) after
  pub bytes_are : bytes.items ≡ text
  pub whole : IsDescription (shelves.files before) file text

-- a shelf as a run of these words leaves it, which name a file. It asks for the first file that they name, and behind that
-- at most for one more: for the second of `compat`, where the first gave a description that is no longer than one may be;
-- or for the certificate of `verify`, where this besides gives the rule a description. Of each it asks for one byte more
-- than it may have
pub data FetchesInOrder {B : Type 0} (shelves : Shelves B) (words : List (List ℕ)) (before after : B) : Type 0 where
  fetches_first : (file : List ℕ) (others : List (List ℕ)) → NamesFiles words (file ∷ others)
      → LeftByFetch shelves file MOST_DESCRIPTION before after → FetchesInOrder shelves words before after
  fetches_second : (file other name text : List ℕ) (reading : Reading) (between : B) → IsCompat words file other name reading
      → GivesDescription shelves file text before between → LeftByFetch shelves other MOST_DESCRIPTION between after
      → FetchesInOrder shelves words before after
  fetches_certificate : (file name certificate text : List ℕ) (reading : Reading) (rules : RulesV) (d : DescV) (between : B)
      → IsVerify words file name reading certificate → GivesDescription shelves file text before between
      → HasRules text rules → IsResolved rules name reading d → LeftByFetch shelves certificate MOST_CERTIFICATE between after
      → FetchesInOrder shelves words before after

-- the end of a run whose job was over so, where all that waited was handed on and flushed
abbrev pub end_with : Result Ended Fault → Ended
end_with (Ok ended) = ended
end_with (Err fault) = end_by fault

-- the end of a run whose rule has no certified description
abbrev pub IsBeforeLines : Ended → Type 0
IsBeforeLines ended = (ended ≡ BadDescription) ⊎ ((ended ≡ NotCertified) ⊎ (ended ≡ Long))

-- over files that are told, the words ask for this job, with these watchers
abbrev pub Asked : List (List ℕ) → Option (List ℕ → Option (List ℕ)) → List Watched → LineJob → Type 0
Asked words None watchers job = Unit {0}
Asked words (Some files) watchers job = AsksFor words files watchers job

-- a run of the words comes to ask for this file; where the files are not told, it is one that the words name
abbrev pub ComesTo : List (List ℕ) → Option (List ℕ → Option (List ℕ)) → List ℕ → Type 0
ComesTo words None file = NamesFile words file
ComesTo words (Some files) file = ComesToFile words files file

-- a run of these words writes this and ends so before it comes to a line
abbrev pub EndedBefore : List (List ℕ) → Option (List ℕ → Option (List ℕ)) → List ℕ → Ended → Type 0
EndedBefore words None written ended = IsBeforeLines ended ⊎ (((ended ≡ Done) ⊎ (ended ≡ SomeRefused)) × ¬ ReadsLines words)
EndedBefore words (Some files) written ended = EndsBefore words files written ended

-- the job that the words ask for, with these watchers, is over with `end`: `left` and `taken` are what the source has
-- left and the sink has taken before it, `left'` and `taken'` after it, and `waits` is what the sink is still to take
pub data JobEnds (words : List (List ℕ)) (files : Option (List ℕ → Option (List ℕ))) (watchers : List Watched)
    (left left' taken taken' : Option (List ℕ)) (waits : List ℕ) (end : Result Ended Fault) : Type 0 where
  -- nothing was read of the input, and nothing written
  unread : left' ≡ left → taken' ≡ taken → waits ≡ [] → (end ≡ Err Read) ⊎ (end ≡ Err Memory)
      → JobEnds words files watchers left left' taken taken' waits end
  before_lines : EndedBefore words files waits (end_with end) → left' ≡ left → taken' ≡ taken
      → JobEnds words files watchers left left' taken taken' waits end
  all_lines : (job : LineJob) (refused : Bool) → Asked words files watchers job
      → AnswersAll (Steps job) closing (beginning job) left left' taken taken' waits refused → end ≡ Ok (end_of refused)
      → JobEnds words files watchers left left' taken taken' waits end
  some_lines : (job : LineJob) (fault : Fault) → Asked words files watchers job
      → Stops (Steps job) (beginning job) fault left left' taken taken' waits → end ≡ Err fault
      → JobEnds words files watchers left left' taken taken' waits end

-- what a job does with its source and its sink, where `comes` holds of one that comes to its lines: before that it leaves
-- the source alone. That it could not read may be the fault of a file
pub record LeavesStreams {S K : Type 0} (sources : Sources S) (sinks : Sinks K) (end : Result Ended Fault) (source source' : S)
    (sink sink' : K) (comes : Type 0) : Type 0 where
  pub touches : (source' ≡ source) ⊎ comes
  pub before_lines : (end ≡ Ok BadDescription) ⊎ (end ≡ Ok NotCertified) → source' ≡ source
  pub write : end ≡ Err Write → SinkFails sinks sink sink'
  pub input : KeepsSource sources source source' (end ≡ Err Read)
  pub out : KeepsSink sinks sink sink' (end ≡ Err Write)

-- what the job of these words does with the shelf: it asks for the files that it comes to, of those that they name, and for
-- no others, and where it comes to one that is told as not held, `lacking` holds
pub record AsksFiles {B : Type 0} (shelves : Shelves B) (words : List (List ℕ)) (before after : B) (lacking : Type 0) : Type 0 where
  pub no_file : NamesNone words → after ≡ before
  pub fetched : (file : List ℕ) → NamesFile words file → FetchesInOrder shelves words before after
  pub missing : (file : List ℕ) → ComesTo words (shelves.files before) file → LacksFile (shelves.files before) file → lacking

-- how a run ends that comes to no job: the words are no row of the command table, or there was no memory to read them
pub data EndsUnread (words : List (List ℕ)) (ended : Ended) : Type 0 where
  ends_usage : ended ≡ Usage → ¬ IsCommand words → EndsUnread words ended
  ends_wanting : ended ≡ NoMemory → IsCommand words → EndsUnread words ended
