-- What a run did: with its words, its watchers and its outside, as this was before it and is after it. (This project's own
-- choice.)
use Rattle.std.specs.Prelude.{◌≡◌, ◌⊎◌, ℕ, List, ◌++◌, map, Option, Some, String, string_bytes}
use Rattle.csn_io.specs.ShelfFault.{LacksFile}
use Rattle.csn_io.specs.declared.shelf.Shelf.{Ghosts as Shelves}
use Rattle.csn_io.specs.declared.source.Source.{Ghosts as Sources}
use Rattle.csn_io.specs.declared.sink.Sink.{Ghosts as Sinks}
use Rattle.csn_replay.specs.Watched.{Watched}
use Rattle.csn_plan.specs.declared.ended.Ended.{Ended}
use Rattle.csn_plan.specs.declared.ended.Ended.TheVariants.{Usage, ReadFault, WriteFault, NoMemory}
use Rattle.csn_command.specs.Command.{IsCommand}
use Rattle.csn_run.specs.declared.outside.Outside.{Outside}
use Rattle.csn_run.specs.Outside.{CannotRead, GoesByFiles, IsAskedToFlush, IsFlushed, KeepsShelf, KeepsSink, KeepsSource}
use Rattle.csn_run.specs.Outside.{OverFiles, Passes, SinkFails, SourceFails}
use Rattle.csn_run.specs.Job.{ComesTo}
use Rattle.csn_run.specs.Result.{AnswersPromptly, BeginsResult, EndsBefore, IsFinished, Result, StopsReading}

-- the words as they are compared: each as its bytes
abbrev pub words_of : {A : Type 0} → List (String A) → List (List ℕ)
words_of words = map (λ word. string_bytes word) words

-- a file that the words come to cannot be read
abbrev pub FileFails : {B : Type 0} → Shelves B → List (List ℕ) → B → B → Type 0
FileFails shelves words before after =
    (file : List ℕ) × ComesTo words (shelves.files before) file × CannotRead shelves before after file

-- the words come to a file that is told as not held
abbrev pub LacksOne : List (List ℕ) → Option (List ℕ → Option (List ℕ)) → Type 0
LacksOne words told = (file : List ℕ) × ComesTo words told file × LacksFile told file

-- over the files that are told, or any where the words name none, a run of the words comes to no line
abbrev pub ComesToNoLine : List (List ℕ) → Option (List ℕ → Option (List ℕ)) → Type 0
ComesToNoLine words told =
    (files : List ℕ → Option (List ℕ)) × (written : List ℕ) × (ended : Ended) × GoesByFiles words told (Some files)
    × EndsBefore words files written ended

-- Of an outside its forms tell what a shelf holds, what a source has left, what a sink took, and their counts of faults.
module _ {B S K : Type 0} (shelves : Shelves B) (sources : Sources S) (sinks : Sinks K) where
  -- one of the three met a fault that a run of the words comes to
  abbrev pub Fails : List (List ℕ) → Outside B S K → Outside B S K → Type 0
  Fails words before after =
      SourceFails sources before.source after.source
      ⊎ (FileFails shelves words before.shelf after.shelf ⊎ SinkFails sinks before.sink after.sink)

  -- ---- what was read and written

  -- this holds, over the files that are told, of what the source gave of its input, of the rest, and of what was written
  abbrev pub Moves : List (List ℕ) → Outside B S K → Outside B S K
      → ((List ℕ → Option (List ℕ)) → List ℕ → List ℕ → List ℕ → Type 0) → Type 0
  Moves words before after P = OverFiles words (shelves.files before.shelf)
      (λ files. Passes (sources.left before.source) (sources.left after.source) (sinks.taken before.sink) (sinks.taken after.sink) (P files))

  -- what is written, and how the run ended, is the result for the whole input
  abbrev pub WritesResult : List (List ℕ) → List Watched → Outside B S K → Outside B S K → Ended → Type 0
  WritesResult words watchers before after ended =
      Moves words before after (λ files given rest written. Result words files watchers (given ++ rest) written ended)

  -- what is written begins the result for the whole input
  abbrev pub WritesFront : List (List ℕ) → List Watched → Outside B S K → Outside B S K → Type 0
  WritesFront words watchers before after =
      Moves words before after (λ files given rest written. BeginsResult words files watchers (given ++ rest) written)

  -- what is written answers just the lines whose line feed came
  abbrev pub WritesToFeed : List (List ℕ) → List Watched → Outside B S K → Outside B S K → Type 0
  WritesToFeed words watchers before after =
      Moves words before after (λ files given rest written. StopsReading words files watchers given written)

  -- what is written answers at least the lines that had ended before the last piece came
  abbrev pub WritesPromptly : List (List ℕ) → List Watched → Outside B S K → Outside B S K → Type 0
  WritesPromptly words watchers before after =
      Moves words before after (λ files given rest written. AnswersPromptly words files watchers given written)

  -- ---- a run

  -- no fault of the three is swallowed: a count rises only where the end tells of that, and that of an object of which no
  -- call fails never does
  pub record TellsFaults (before after : Outside B S K) (told : Type 0) : Type 0 where
    pub shelf : KeepsShelf shelves before.shelf after.shelf told
    pub source : KeepsSource sources before.source after.source told
    pub sink : KeepsSink sinks before.sink after.sink told

  -- a run of the words, by how it ended
  pub data Ran (words : List (List ℕ)) (watchers : List Watched) (before after : Outside B S K) (ended : Ended) : Type 0 where
    -- the words are no row of the command table, and the outside is left alone
    words_refused : ended ≡ Usage → ¬ IsCommand words → after ≡ before → Ran words watchers before after ended
    -- the job is done, and its result is written and flushed
    job_finished : IsCommand words → IsFinished ended → WritesResult words watchers before after ended → IsFlushed sinks after.sink
        → Ran words watchers before after ended
    -- the source could not be read: the lines that had ended are answered, and that is flushed
    source_failed : IsCommand words → ended ≡ ReadFault → SourceFails sources before.source after.source → WritesToFeed words watchers before after
        → IsFlushed sinks after.sink → Ran words watchers before after ended
    -- so it is where a file could not be read
    file_failed : IsCommand words → ended ≡ ReadFault → FileFails shelves words before.shelf after.shelf → WritesToFeed words watchers before after
        → IsFlushed sinks after.sink → Ran words watchers before after ended
    -- the sink could not be written or flushed: what it took begins the result
    sink_failed : IsCommand words → ended ≡ WriteFault → SinkFails sinks before.sink after.sink → WritesFront words watchers before after
        → Ran words watchers before after ended
    -- memory was wanting: what is written begins the result, and the sink was asked to flush it
    memory_wanted : IsCommand words → ended ≡ NoMemory → WritesFront words watchers before after → IsAskedToFlush sinks after.sink
        → Ran words watchers before after ended
