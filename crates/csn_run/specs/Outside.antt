-- What the top call tells of the outside. (This project's own choice.)
use Rattle.std.specs.Prelude.{◌≡◌, ◌⊎◌, ℕ, ◌+◌, ◌≤◌, List, length, Option, Some, None, Result, Vec}
use Rattle.std.specs.declared.alloc.Global.{Global}
use Rattle.csn_command.specs.Command.{NamesFile}
use Rattle.csn_io.specs.Faults.{Keeps, Rose}
use Rattle.csn_io.specs.Got.{Gave}
use Rattle.csn_io.specs.Put.{Appended, FlushedAll, LeftByFlush}
use Rattle.csn_io.specs.ShelfFault.{LacksFile}
use Rattle.csn_io.specs.declared.shelf.Shelf.{Ghosts as Shelves}
use Rattle.csn_io.specs.declared.shelf.ShelfFault.{ShelfFault}
use Rattle.csn_io.specs.declared.sink.Sink.{Ghosts as Sinks}
use Rattle.csn_io.specs.declared.source.Source.{Ghosts as Sources}
use Rattle.csn_lines.specs.declared.lines.TheConstants.{MOST_INPUT}

-- ---- one object of the outside, by what its form tells of it before and after

-- a shelf cannot read this file: it met a fault, and has its name as that of the last one, or it tells its files and does
-- not hold it
abbrev pub CannotRead : {B : Type 0} → Shelves B → B → B → List ℕ → Type 0
CannotRead shelves before after name =
    (Rose (shelves.faults before) (shelves.faults after) × (shelves.last_fault after ≡ Some name)) ⊎ LacksFile (shelves.files before) name

-- a shelf comes of one call, with some answer, that asks for a byte more than so many of a file
abbrev pub LeftByFetch : {B : Type 0} → Shelves B → List ℕ → ℕ → B → B → Type 0
LeftByFetch shelves file most before after =
    (answer : Result (Vec ℕ Global) ShelfFault) × shelves.fetch_gives before file (most + 1) answer after

-- a source met a fault
abbrev pub SourceFails : {S : Type 0} → Sources S → S → S → Type 0
SourceFails sources before after = Rose (sources.faults before) (sources.faults after)

-- a sink met a fault
abbrev pub SinkFails : {K : Type 0} → Sinks K → K → K → Type 0
SinkFails sinks before after = Rose (sinks.faults before) (sinks.faults after)

-- all that a sink took is flushed
abbrev pub IsFlushed : {K : Type 0} → Sinks K → K → Type 0
IsFlushed sinks after = FlushedAll (sinks.taken after) (sinks.flushed after)

-- a sink was asked to flush what it took, and had perhaps no memory for it
abbrev pub IsAskedToFlush : {K : Type 0} → Sinks K → K → Type 0
IsAskedToFlush sinks after = LeftByFlush sinks.flush_gives sinks.taken sinks.flushed after

-- an object swallows no fault: its count rises only where it is to blame
abbrev pub KeepsShelf : {B : Type 0} → Shelves B → B → B → Type 0 → Type 0
KeepsShelf shelves before after to_blame =
    Keeps (shelves.steady before) (shelves.steady after) (shelves.faults before) (shelves.faults after) to_blame

abbrev pub KeepsSource : {S : Type 0} → Sources S → S → S → Type 0 → Type 0
KeepsSource sources before after to_blame =
    Keeps (sources.steady before) (sources.steady after) (sources.faults before) (sources.faults after) to_blame

abbrev pub KeepsSink : {K : Type 0} → Sinks K → K → K → Type 0 → Type 0
KeepsSink sinks before after to_blame =
    Keeps (sinks.steady before) (sinks.steady after) (sinks.faults before) (sinks.faults after) to_blame

-- ---- the words and the files

-- the words name a file
abbrev pub NamesSome : List (List ℕ) → Type 0
NamesSome words = (file : List ℕ) × NamesFile words file

-- the words name no file
abbrev pub NamesNone : List (List ℕ) → Type 0
NamesNone words = (file : List ℕ) → NamesFile words file → ⊥

-- a run of the words goes by these files: a shelf that tells `told` holds them, or the words name none
abbrev pub GoesByFiles : List (List ℕ) → Option (List ℕ → Option (List ℕ)) → Option (List ℕ → Option (List ℕ)) → Type 0
GoesByFiles words told files = (told ≡ files) ⊎ NamesNone words

-- this holds over the files that a shelf tells. Where it tells none, it holds over any files, if the words name none
abbrev pub OverFiles : List (List ℕ) → Option (List ℕ → Option (List ℕ)) → ((List ℕ → Option (List ℕ)) → Type 0) → Type 0
OverFiles words None P = NamesNone words → (files : List ℕ → Option (List ℕ)) → P files
OverFiles words (Some files) P = P files

-- ---- what passes

-- no more than a byte past the limit of an input was taken of a source, where it tells what it has left
abbrev pub HasTakenFew : Option (List ℕ) → Option (List ℕ) → Type 0
HasTakenFew left left' =
    (whole rest : List ℕ) → left ≡ Some whole → left' ≡ Some rest → length whole ≤ length rest + MOST_INPUT + 1

-- what a source has left, where it tells that
abbrev pub IsLeft : Option (List ℕ) → List ℕ → Type 0
IsLeft None rest = Unit {0}
IsLeft (Some left) rest = left ≡ rest

-- what passed between a run and the two streams, where this holds of it: the source, which had `left`, gave some bytes of an
-- input and has the rest left, and the sink, which had taken `taken`, took what is written
pub record Passes (left left' taken taken' : Option (List ℕ)) (P : List ℕ → List ℕ → List ℕ → Type 0) : Type 0 where
  pub given : List ℕ
  pub rest : List ℕ
  pub written : List ℕ
  pub source : Gave left left' given
  pub rest_is : IsLeft left' rest
  pub sink : Appended taken taken' written
  pub holds : P given rest written
