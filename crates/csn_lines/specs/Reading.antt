-- How far a command has taken the open line.
use Rattle.std.specs.Prelude.{◌≡◌, ℕ, Bool, true, false, List, [], ◌∷◌, ◌++◌, length}
use Rattle.csn_lines.specs.declared.lines.Lines.{Lines}
use Rattle.csn_lines.specs.declared.lines.TheConstants.{CARRIAGE_RETURN}
use Rattle.csn_lines.specs.Lines.{HasNoFeed, without_return}
use Rattle.csn_lines.specs.LineState.{Kept}
use Rattle.csn_lines.specs.Work.{LineWork}

-- the carriage return that waits, where one does
abbrev pub return_of : Bool → List ℕ
return_of true = CARRIAGE_RETURN ∷ []
return_of false = []

-- a command has taken the open line, but for a return at its end, which waits for the next byte
pub record AtLine (reads : List ℕ → Type 0) (given : ℕ) (held : Bool) (line : List ℕ) : Type 0 where
  pub front : List ℕ
  pub stands : reads front
  pub count : given ≡ length front
  pub line_is : line ≡ front ++ return_of held
  pub bare : without_return line ≡ front
  pub unended : HasNoFeed line

-- no byte of a line has come
abbrev pub IsFresh : Lines → Type 0
IsFresh lines = (lines.given ≡ 0) × (lines.held ≡ false)

-- none has come, no answer waits, and no line was refused
pub record IsReady (lines : Lines) : Type 0 where
  pub line : IsFresh lines
  pub pending : lines.pending.items ≡ []
  pub refused : lines.refused ≡ false

-- bytes were at most given to a command: it does what it did and keeps what it kept, no answer was added, and no line refused
pub record OnlyGives (does does' : LineWork) (keeps keeps' : Kept) (lines lines' : Lines) : Type 0 where
  pub work : does' ≡ does
  pub kept : keeps' ≡ keeps
  pub pending : lines'.pending ≡ lines.pending
  pub refused : lines'.refused ≡ lines.refused
