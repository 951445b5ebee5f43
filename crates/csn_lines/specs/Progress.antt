-- How far a job over the lines of an input has come. `Step` says what a line gives in a state, and the state behind it;
-- `begin` is the state in front of the first line, and `closing` what is written behind the last one.
use Rattle.std.specs.Prelude.{◌≡◌, ℕ, ◌+◌, ◌≤◌, Bool, ◌||◌, List, [], ◌∷◌, ◌++◌, length, take, Option}
use Rattle.std.specs.List.{list_any}
use Rattle.csn_io.specs.Got.{Gave, NothingLeft}
use Rattle.csn_io.specs.Put.{Appended}
use Rattle.csn_lines.specs.declared.fault.Fault.{Fault}
use Rattle.csn_lines.specs.declared.fault.Fault.TheVariants.{Read, Write, Memory, TooLong}
use Rattle.csn_lines.specs.declared.lines.TheConstants.{MOST_INPUT, PIECE}
use Rattle.csn_lines.specs.Lines.{between_feeds, HasNoFeed, answered, text_of, is_refusal}

-- from one state to another the lines give these texts, one a line
abbrev pub AllSteps : {St : Type 0} → (St → List ℕ → List ℕ → St → Type 0) → St → List (List ℕ) → List (List ℕ) → St → Type 0
AllSteps Step before [] [] after = after ≡ before
AllSteps Step before [] (text ∷ texts) after = ⊥
AllSteps Step before (line ∷ lines) [] after = ⊥
AllSteps Step before (line ∷ lines) (text ∷ texts) after =
    (between : _) × Step before line text between × AllSteps Step between lines texts after

-- the text is what these pieces of an input give from one state to another, and `refused` says whether some line is refused
pub record Answers {St : Type 0} (Step : St → List ℕ → List ℕ → St → Type 0) (before : St) (pieces : List (List ℕ))
    (text : List ℕ) (after : St) (refused : Bool) : Type 0 where
  pub texts : List (List ℕ)
  pub each : AllSteps Step before (answered pieces) texts after
  pub text_is : text ≡ text_of texts
  pub refused_is : refused ≡ list_any is_refusal texts

-- new is old with a text behind it that these pieces give
pub record AddsAnswers {St : Type 0} (Step : St → List ℕ → List ℕ → St → Type 0) (before : St)
    (pieces : List (List ℕ)) (old new : List ℕ) (after : St) (refused : Bool) : Type 0 where
  pub text : List ℕ
  pub answers : Answers Step before pieces text after refused
  pub new_is : new ≡ old ++ text

-- the bytes are these ended pieces, and then a line that no line feed has ended
pub record EndsIn (bytes : List ℕ) (ended : List (List ℕ)) (line : List ℕ) : Type 0 where
  pub whole : (more : List ℕ) → between_feeds (bytes ++ more) ≡ ended ++ between_feeds (line ++ more)
  pub unended : HasNoFeed line

-- a job that had answered what stood before the bytes has answered each piece that a line feed ends
-- in them, and stands at a line. `old` and `new` are the texts that wait for the sink
pub record Advances {St : Type 0} (Step : St → List ℕ → List ℕ → St → Type 0) (before : St)
    (bytes line old new : List ℕ) (after : St) (refused : Bool) : Type 0 where
  pub ended : List (List ℕ)
  pub ends : EndsIn bytes ended line
  pub adds : AddsAnswers Step before ended old new after refused

-- a job stopped on the way through the bytes: it has answered some of the first pieces
pub record Halts {St : Type 0} (Step : St → List ℕ → List ℕ → St → Type 0) (before : St) (bytes old new : List ℕ) : Type 0 where
  pub ended : List (List ℕ)
  pub after : St
  pub refused : Bool
  pub begins : (more : List ℕ) → (behind : List (List ℕ)) × (between_feeds (bytes ++ more) ≡ ended ++ behind)
  pub adds : AddsAnswers Step before ended old new after refused

-- a job went through the bytes, and the sink took all that answers the pieces which a line feed ends
-- in them
pub record PassesOn {St : Type 0} (Step : St → List ℕ → List ℕ → St → Type 0) (before : St) (bytes line : List ℕ)
    (taken taken' : Option (List ℕ)) (after : St) (was_refused is_refused : Bool) : Type 0 where
  pub text : List ℕ
  pub refused : Bool
  pub advances : Advances Step before bytes line [] text after refused
  pub sink : Appended taken taken' text
  pub refused_is : is_refused ≡ (was_refused || refused)

-- a job stopped on the way through the bytes: what the sink took, with what waits for it, begins the
-- answers to some of the first pieces
pub record HaltsAt {St : Type 0} (Step : St → List ℕ → List ℕ → St → Type 0) (before : St) (bytes : List ℕ)
    (taken taken' : Option (List ℕ)) (waits : List ℕ) : Type 0 where
  pub text : List ℕ
  pub took : List ℕ
  pub rest : List ℕ
  pub halts : Halts Step before bytes [] text
  pub sink : Appended taken taken' took
  pub text_begins : text ≡ (took ++ waits) ++ rest

-- a job stopped where these lines of the input had ended: each is answered, and nothing else
pub record StopsAfter {St : Type 0} (Step : St → List ℕ → List ℕ → St → Type 0) (begin : St) (input : List ℕ) (text : List ℕ) : Type 0 where
  pub ended : List (List ℕ)
  pub line : List ℕ
  pub after : St
  pub refused : Bool
  pub ends : EndsIn input ended line
  pub answers : Answers Step begin ended text after refused

-- no answer is kept back: the text begins with the answers to the lines that had ended before the last piece of what the
-- source gave
pub record KeepsUp {St : Type 0} (Step : St → List ℕ → List ℕ → St → Type 0) (begin : St) (given text : List ℕ) : Type 0 where
  pub before : List ℕ
  pub piece : List ℕ
  pub front : List ℕ
  pub rest : List ℕ
  pub given_is : given ≡ before ++ piece
  pub short : length piece ≤ PIECE
  pub stopped : StopsAfter Step begin before front
  pub text_is : text ≡ front ++ rest

-- the last line of an input is answered, and what closes the input stands behind that
pub record Closes {St : Type 0} (Step : St → List ℕ → List ℕ → St → Type 0) (closing : St → List ℕ) (before : St)
    (line old new : List ℕ) (was_refused is_refused : Bool) : Type 0 where
  pub between : List ℕ
  pub after : St
  pub refused : Bool
  pub adds : AddsAnswers Step before (line ∷ []) old between after refused
  pub closed : new ≡ between ++ closing after
  pub refused_is : is_refused ≡ (was_refused || refused)

-- all lines of an input are answered: what the source gave until nothing was left, `gave`, is the
-- whole input, and what the sink took, with what waits for it, is the text that answers it, with what closes it
pub record AnswersAll {St : Type 0} (Step : St → List ℕ → List ℕ → St → Type 0) (closing : St → List ℕ) (begin : St)
    (left left' : Option (List ℕ)) (taken taken' : Option (List ℕ)) (waits : List ℕ) (refused : Bool) : Type 0 where
  pub given : List ℕ
  pub took : List ℕ
  pub text : List ℕ
  pub after : St
  pub source : Gave left left' given
  pub nothing_left : NothingLeft left'
  pub fits : length given ≤ MOST_INPUT
  pub sink : Appended taken taken' took
  pub keeps_up : KeepsUp Step begin given took
  pub answers : Answers Step begin (between_feeds given) text after refused
  pub closed : took ++ waits ≡ text ++ closing after

-- a job stopped somewhere in the input: what was written begins the answers to some of the first
-- lines
pub record StopsWithin {St : Type 0} (Step : St → List ℕ → List ℕ → St → Type 0) (begin : St) (input : List ℕ) (text : List ℕ) : Type 0 where
  pub ended : List (List ℕ)
  pub whole_text : List ℕ
  pub rest : List ℕ
  pub after : St
  pub refused : Bool
  pub begins : (more : List ℕ) → (behind : List (List ℕ)) × (between_feeds (input ++ more) ≡ ended ++ behind)
  pub answers : Answers Step begin ended whole_text after refused
  pub text_begins : whole_text ≡ text ++ rest

-- where a job stopped that met a fault, by what the source had given and what was written. No line is
-- answered that does not end within the limit of an input
abbrev pub StopsWhere : {St : Type 0} → (St → List ℕ → List ℕ → St → Type 0) → St → Fault → List ℕ → List ℕ → Type 0
StopsWhere Step begin Read given text = (length given ≤ MOST_INPUT) × StopsAfter Step begin given text
StopsWhere Step begin Write given text = StopsWithin Step begin (take MOST_INPUT given) text
StopsWhere Step begin Memory given text = StopsWithin Step begin (take MOST_INPUT given) text
StopsWhere Step begin TooLong given text = (length given ≡ MOST_INPUT + 1) × StopsAfter Step begin (take MOST_INPUT given) text

-- a fault stopped a job over the lines of an input
pub record Stops {St : Type 0} (Step : St → List ℕ → List ℕ → St → Type 0) (begin : St) (fault : Fault)
    (left left' : Option (List ℕ)) (taken taken' : Option (List ℕ)) (waits : List ℕ) : Type 0 where
  pub given : List ℕ
  pub took : List ℕ
  pub source : Gave left left' given
  pub few : length given ≤ MOST_INPUT + 1
  pub sink : Appended taken taken' took
  pub keeps_up : KeepsUp Step begin given took
  pub by : StopsWhere Step begin fault given (took ++ waits)
