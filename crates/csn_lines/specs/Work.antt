-- What a command over lines does, by the state that the lines before have come to, and by what it keeps of that.
use Rattle.std.specs.Prelude.{◌≡◌, ℕ, List, Option}
use Rattle.csn_catalogue.specs.declared.entry.Entry.{Entry}
use Rattle.csn_command.specs.declared.command.RuleCommand.{RuleCommand}
use Rattle.csn_segment.specs.Joining.{JoinsFor}
use Rattle.csn_lines.specs.Language.{Language}
use Rattle.csn_lines.specs.LineState.{LineState, Kept, AnswersAlone}
use Rattle.csn_lines.specs.OutLine.{AnswersLine, MigratesLine, Replays, Segments, SegmentsLine}

-- what the command of a line does: it goes by a language, writes old texts anew, joins blocks to messages and goes by the
-- language of downlink blocks, or shows blocks to watchers and goes by the languages of the entries
pub data LineWork : Type 0 where
  answering : RuleCommand → Language → LineWork
  renewing : LineWork
  joining : Language → LineWork
  watching : (Entry → Language) → LineWork

-- what a line gives in this work, and how it takes the state further
abbrev pub Gives : LineWork → LineState → List ℕ → List ℕ → LineState → Type 0
Gives (answering command language) = AnswersAlone (AnswersLine command language)
Gives renewing = AnswersAlone MigratesLine
Gives (joining language) = Segments language
Gives (watching languages) = Replays languages

-- bodies that are kept are those that wait behind these blocks, where blocks are joined
abbrev pub KeepsBodies : LineWork → List (Option (List ℕ)) → List (List ℕ) → Type 0
KeepsBodies (answering command language) bodies blocks = Unit {0}
KeepsBodies renewing bodies blocks = Unit {0}
KeepsBodies (joining language) bodies blocks = JoinsFor bodies blocks
KeepsBodies (watching languages) bodies blocks = Unit {0}

-- what is kept stands for a state
pub record Stands (work : LineWork) (kept : Kept) (state : LineState) : Type 0 where
  pub bodies : KeepsBodies work kept.bodies state.blocks
  pub watchers : kept.watchers ≡ state.watchers

-- how a line takes what is kept further: it takes so each state that this stands for
abbrev pub Works : LineWork → Kept → List ℕ → List ℕ → Kept → Type 0
Works work kept line text kept' =
    (before : LineState) → Stands work kept before
    → (after : LineState) × Gives work before line text after × Stands work kept' after

-- a line of `segments` is answered so, whichever blocks came before, and takes the bodies that are kept further
abbrev pub JoinsLine : Language → List (Option (List ℕ)) → List ℕ → List ℕ → List (Option (List ℕ)) → Type 0
JoinsLine language bodies line answer bodies' =
    (before : List (List ℕ)) → JoinsFor bodies before
    → (after : List (List ℕ)) × JoinsFor bodies' after × SegmentsLine language before line answer after
