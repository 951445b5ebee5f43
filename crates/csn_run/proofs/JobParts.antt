-- What a job does with the outside, by what the functions that do it ensure.
use Rattle.std.proofs.Common.{◌≡◌, ℕ, ◌+◌, ◌≤◌, ◌⊎◌, Bool, true, false, inl, inr, List, [], ◌∷◌, length, Result, Ok, Err, IfOk, refl, subst}
use Rattle.std.specs.Prelude.{Vec}
use Rattle.std.specs.declared.alloc.Global.{Global}
use Rattle.csn_desc.specs.declared.reading.Reading.{Reading}
use Rattle.csn_io.specs.ShelfFault.{LacksFile}
use Rattle.csn_io.specs.declared.shelf.Shelf.{Ghosts as Shelves}
use Rattle.csn_io.specs.declared.sink.Sink.{Ghosts as Sinks}
use Rattle.csn_io.specs.declared.source.Source.{Ghosts as Sources}
use Rattle.csn_plan.specs.declared.compiling.NoPlan.{NoPlan}
use Rattle.csn_plan.specs.declared.ended.Ended.{Ended}
use Rattle.csn_plan.specs.declared.ended.Ended.TheVariants.{Done, SomeRefused, BadDescription, NotCertified}
use Rattle.csn_lines.specs.declared.fault.Fault.{Fault}
use Rattle.csn_lines.specs.declared.fault.Fault.TheVariants.{Read, Write, Memory}
use Rattle.csn_run.specs.declared.planned.Unplanned.TheVariants.{Text}
use Rattle.csn_command.specs.Command.{IsCompat, IsOverRule, IsVerify, NamesFiles, names_one, names_pair, names_certificate}
use Rattle.csn_plan.specs.declared.compiling.TheConstants.{MOST_DESCRIPTION}
use Rattle.csn_run.specs.Job.{AsksFiles, ComesTo, FetchesInOrder, GivesDescription, IsDescription, LeavesStreams, fetches_first}
use Rattle.csn_run.specs.Outside.{LeftByFetch}
use Rattle.csn_run.specs.Planned.{Refuses}
use Rattle.csn_lines.specs.Ends.{BlamesStreams, end_of}
use Rattle.csn_run.proofs.CommandLemmas.{comes_to_none, no_files, one_comes}
use Rattle.csn_lines.proofs.OutsideLemmas.{keeps_still}

-- ---- the source and the sink

-- a job that leaves both alone
pub streams_alone :
    {S K : Type 0} {sources : Sources S} {sinks : Sinks K} {end : Result Ended Fault} {source : S} {sink : K} {comes : Type 0}
    → (end ≡ Err Write → ⊥) → LeavesStreams sources sinks end source source sink sink comes
streams_alone never = record { touches = inl refl; before_lines = λ ended. refl; write = λ e. absurd (never e); input = keeps_still; out = keeps_still }

-- where all lines were answered, the job is not over before them
not_before :
    (refused : Bool) (end : Result Ended Fault) → IfOk end (λ ended. ended ≡ end_of refused)
    → (end ≡ Ok BadDescription) ⊎ (end ≡ Ok NotCertified) → ⊥
not_before refused (Err fault) ok (inl e) = cc
not_before refused (Err fault) ok (inr e) = cc
not_before true (Ok ended) ok (inl e) = let is : ended ≡ SomeRefused = ok in cc
not_before true (Ok ended) ok (inr e) = let is : ended ≡ SomeRefused = ok in cc
not_before false (Ok ended) ok (inl e) = let is : ended ≡ Done = ok in cc
not_before false (Ok ended) ok (inr e) = let is : ended ≡ Done = ok in cc

-- a job that comes to its lines
pub streams_of_lines :
    {S K : Type 0} {sources : Sources S} {sinks : Sinks K} {end : Result Ended Fault} {source source' : S} {sink sink' : K} {comes : Type 0}
    → comes → (refused : Bool) → IfOk end (λ ended. ended ≡ end_of refused)
    → BlamesStreams end (sources.steady source) (sources.steady source') (sources.faults source) (sources.faults source')
    (sinks.steady sink) (sinks.steady sink') (sinks.faults sink) (sinks.faults sink')
    → LeavesStreams sources sinks end source source' sink sink' comes
streams_of_lines {end = end} comes refused ok blames = record {
  touches = inr comes;
  before_lines = λ before. absurd (not_before refused end ok before);
  write = blames.write;
  input = blames.input;
  out = blames.out;
}

-- a job within another
pub streams_within :
    {S K : Type 0} {sources : Sources S} {sinks : Sinks K} {end : Result Ended Fault} {source source' : S} {sink sink' : K} {comes others : Type 0}
    → (comes → others) → LeavesStreams sources sinks end source source' sink sink' comes
    → LeavesStreams sources sinks end source source' sink sink' others
streams_within within streams = record {
  touches = elim streams.touches [ inl same ↦ inl same | inr comes ↦ inr (within comes) ];
  before_lines = streams.before_lines;
  write = streams.write;
  input = streams.input;
  out = streams.out;
}

-- ---- a text that gives no plan

-- it ends a job by no fault but want of memory
module _ (reason : NoPlan) (waits : List ℕ) where
  pub text_no_read : (end : Result Ended Fault) → Refuses (Text reason) waits end → end ≡ Err Read → ⊥
  text_no_read (Ok ended) refuses e = cc
  text_no_read (Err fault) refuses e = let is : fault ≡ Memory = refuses.0 in cc

  pub text_no_write : (end : Result Ended Fault) → Refuses (Text reason) waits end → end ≡ Err Write → ⊥
  text_no_write (Ok ended) refuses e = cc
  text_no_write (Err fault) refuses e = let is : fault ≡ Memory = refuses.0 in cc

-- ---- the shelf

-- a call that gave a text gave a description, where that is all of the file
pub gives_description :
    {B E : Type 0} (shelves : Shelves B) (file : List ℕ) (before after : B) (fetched : Result (Vec ℕ Global) E)
    → IfOk fetched (λ text. shelves.fetch_gives before file (MOST_DESCRIPTION + 1) (Ok text) after)
    → IfOk fetched (λ text. IsDescription (shelves.files before) file text.items)
    → IfOk fetched (λ text. GivesDescription shelves file text.items before after)
gives_description shelves file before after (Ok text) given whole =
    record { bytes = text; given = given; bytes_are = refl; whole = whole }
gives_description shelves file before after (Err why) given whole = tt

-- words of three or fewer ask for no file
pub asks_none : {B : Type 0} {shelves : Shelves B} {words : List (List ℕ)} {shelf : B} {lacking : Type 0}
    → length words ≤ 3 → AsksFiles shelves words shelf shelf lacking
asks_none {shelves = shelves} {words = words} {shelf = shelf} few = record {
  no_file = λ none. refl;
  fetched = λ file named. absurd (no_files few named.2);
  missing = λ file comes lacks. absurd (comes_to_none words file (shelves.files shelf) few comes);
}

module _ {B : Type 0} {words : List (List ℕ)} {lacking : Type 0} (shelves : Shelves B) (before after : B) where
  -- words that name these files ask for the first, and then perhaps for the next
  asks_named : {file : List ℕ} {others : List (List ℕ)} → NamesFiles words (file ∷ others)
      → FetchesInOrder shelves words before after
      → ((other : List ℕ) → ComesTo words (shelves.files before) other → LacksFile (shelves.files before) other → lacking)
      → AsksFiles shelves words before after lacking
  asks_named {file = file} {others = others} named fetched missing = record {
    no_file = λ none. absurd (none file ([], others, named));
    fetched = λ other is. fetched;
    missing = missing;
  }

  -- words that name a rule ask for its file alone
  pub asks_one :
      {file name : List ℕ} {reading : Reading} → IsOverRule words file name reading → LeftByFetch shelves file MOST_DESCRIPTION before after
      → (LacksFile (shelves.files before) file → lacking) → AsksFiles shelves words before after lacking
  asks_one {file = file} {name = name} {reading = reading} over fetched missing =
      asks_named (names_one file name reading over refl) (fetches_first file [] (names_one file name reading over refl) fetched)
      (λ other comes lacks. missing (subst (LacksFile (shelves.files before)) (one_comes (shelves.files before) over comes) lacks))

  -- those of `compat` ask for both files, or for the first alone
  pub asks_pair : {old new name : List ℕ} {reading : Reading} → IsCompat words old new name reading
      → FetchesInOrder shelves words before after
      → ((other : List ℕ) → ComesTo words (shelves.files before) other → LacksFile (shelves.files before) other → lacking)
      → AsksFiles shelves words before after lacking
  asks_pair {old = old} {new = new} {name = name} {reading = reading} row = asks_named (names_pair old new name reading row refl)

  -- and those of `verify` for the description and the certificate, or for the description alone
  pub asks_certificate : {file name certificate : List ℕ} {reading : Reading} → IsVerify words file name reading certificate
      → FetchesInOrder shelves words before after
      → ((other : List ℕ) → ComesTo words (shelves.files before) other → LacksFile (shelves.files before) other → lacking)
      → AsksFiles shelves words before after lacking
  asks_certificate {file = file} {name = name} {certificate = certificate} {reading = reading} row =
      asks_named (names_certificate file name reading certificate row refl)

-- where a file is lacking, what leaves the streams alone has done so
pub lacking_alone : {A B Source Sink : Type 0} {source : Source} {sink : Sink} → A × B → A × (source ≡ source) × (sink ≡ sink) × B
lacking_alone both = (both.0, refl, refl, both.1)
