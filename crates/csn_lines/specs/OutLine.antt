-- What answers one line of the input. The texts are this project's own.
use Rattle.std.specs.Prelude.{◌≡◌, ◌≢◌, ◌⊎◌, ℕ, ◌≤◌, ◌%◌, nat_lt, not, if◌then◌else◌, List, [], ◌∷◌, ◌++◌, length, drop, codes, Option, Some, None}
use Rattle.std.specs.List.{flat_map}
use Rattle.std.specs.Fmt.{decimal}
use Rattle.csn_bits.specs.Octets.{most_bits, bits_of_octets, octets_of}
use Rattle.csn_bits.specs.Line.{BlockLine, written}
use Rattle.csn_bits.specs.Fault.{IsLineFault}
use Rattle.csn_bits.specs.declared.fault.BitsFault.{BitsFault}
use Rattle.csn_bits.specs.declared.fault.BitsFault.TheVariants.{BadDigit, BadLength, BadFill, TooManyBits, NoMemory}
use Rattle.csn_catalogue.specs.declared.entry.Entry.{Entry}
use Rattle.csn_desc.specs.TreeV.{TreeV}
use Rattle.csn_encode.specs.declared.misfit.MisfitWhy.{MisfitWhy}
use Rattle.csn_encode.specs.declared.misfit.MisfitWhy.TheVariants.{WrongKind, WrongLabel, WrongCount, WrongWidth}
use Rattle.csn_encode.specs.declared.misfit.MisfitWhy.TheVariants.{WrongSpare, NoSuchAlternative, WindowLength}
use Rattle.csn_encode.specs.declared.misfit.MisfitWhy.TheVariants.{TooManyBits as past_the_limit}
use Rattle.csn_replay.specs.Capture.{IsCapture}
use Rattle.csn_replay.specs.Watched.{Watched, done_watching, reports, still_watching}
use Rattle.csn_replay.specs.declared.seen.Seen.{Seen}
use Rattle.csn_segment.specs.declared.joined.Joined.{Joined}
use Rattle.csn_segment.specs.declared.joined.Joined.TheVariants.{Whole, Waiting, Refused as no_message}
use Rattle.csn_segment.specs.declared.joined.SegmentWhy.{SegmentWhy}
use Rattle.csn_segment.specs.declared.joined.SegmentWhy.TheVariants.{BadLength as not_23_octets, NotControl, Reserved, NotFinal, NoFirst}
use Rattle.csn_segment.specs.Joining.{answer_to}
use Rattle.csn_treetext.specs.declared.version.Version.TheVariants.{First, Second}
use Rattle.csn_treetext.specs.Place.{TreeText, OldText, IsFaultPlace}
use Rattle.csn_json.specs.declared.fault.JsonFault.{JsonFault}
use Rattle.csn_json.specs.declared.fault.JsonFault.TheVariants.{NotJson, NotTree, NoMemory as no_memory_for_json}
use Rattle.csn_json.specs.JsonText.{JsonText, IsFaultOf as IsJsonFault}
use Rattle.csn_json.specs.declared.form.TreeForm.{TreeForm}
use Rattle.csn_json.specs.declared.form.TreeForm.TheVariants.{Text, Json}
use Rattle.csn_json.specs.Forms.{IsShown}
use Rattle.csn_command.specs.declared.command.RuleCommand.{RuleCommand}
use Rattle.csn_lines.specs.declared.lines.TheConstants.{LINE_FEED}
use Rattle.csn_command.specs.declared.command.RuleCommand.TheVariants.{Show, Write}
use Rattle.csn_plan.specs.Compiled.{line_of}
use Rattle.csn_lines.specs.Language.{Language, HasPlace, HasTree, Misses}
use Rattle.csn_lines.specs.LineState.{LineState}
use Rattle.csn_lines.specs.Lines.{is_refusal}

-- the answer to a line that is no block line: the number of its fault, and the column of a bad digit
abbrev pub fault_text : BitsFault → List ℕ
fault_text (BadDigit column) = codes "bad 1 " ++ decimal column
fault_text BadLength = codes "bad 2"
fault_text BadFill = codes "bad 3"
fault_text TooManyBits = codes "bad 4"
fault_text NoMemory = []

-- the answer to a block that is refused at a place: whether its next bit cannot follow, or it ended
abbrev pub refusal_text : ℕ → List ℕ → List ℕ
refusal_text place block =
    codes "no " ++ (decimal place ++ (if nat_lt place (length block) then codes " bit" else codes " ended"))

-- a block is answered by its tree in a form, or by the place up to which its bits can be followed
pub data ShowsBlock (form : TreeForm) (language : Language) (block answer : List ℕ) : Type 0 where
  shows_tree : (t : TreeV) (text : List ℕ) → HasTree language block t → IsShown form t text → answer ≡ codes "ok " ++ text
      → ShowsBlock form language block answer
  shows_place : (place : ℕ) → ((t : TreeV) → HasTree language block t → ⊥) → HasPlace language block place
      → answer ≡ refusal_text place block → ShowsBlock form language block answer

-- `show` and `json`: a block line is answered as its block is, and a line that is none by its fault
pub data ShowsLine (form : TreeForm) (language : Language) (line answer : List ℕ) : Type 0 where
  shows_block : (block : List ℕ) → BlockLine line block → ShowsBlock form language block answer → ShowsLine form language line answer
  shows_fault : (fault : BitsFault) → IsLineFault line fault → answer ≡ fault_text fault → ShowsLine form language line answer

-- steps down a tree: `/` and a number for each
abbrev pub steps_text : List ℕ → List ℕ
steps_text steps = flat_map (λ step. 47 ∷ decimal step) steps

-- the way from the root of a tree to a tree inside it: its steps, and `/` alone where it has none
abbrev pub path_text : List ℕ → List ℕ
path_text [] = codes "/"
path_text (step ∷ steps) = steps_text (step ∷ steps)

-- why a tree misses: the name of the reason, and behind it what was wanted and what was found
abbrev pub why_text : MisfitWhy → List ℕ
why_text WrongKind = codes "WrongKind"
why_text WrongLabel = codes "WrongLabel"
why_text (WrongCount wanted found) = line_of (codes "WrongCount") (wanted ∷ found ∷ [])
why_text (WrongWidth wanted found) = line_of (codes "WrongWidth") (wanted ∷ found ∷ [])
why_text WrongSpare = codes "WrongSpare"
why_text NoSuchAlternative = codes "NoSuchAlternative"
why_text (WindowLength wanted found) = line_of (codes "WindowLength") (wanted ∷ found ∷ [])
why_text past_the_limit = codes "TooManyBits"

-- the answer to a tree that no block has: where it first misses, and why
abbrev pub misfit_text : List ℕ → MisfitWhy → List ℕ
misfit_text path why = codes "no " ++ (path_text path ++ 32 ∷ why_text why)

-- a line that is a tree in a form
abbrev pub IsRead : TreeForm → TreeV → List ℕ → Type 0
IsRead Text = TreeText
IsRead Json = JsonText

-- the answer to a line that is no tree in a form: of a text the place up to which it begins one; of JSON 1 where the line
-- is no JSON, and 2 where it is a value that shows no tree
abbrev pub IsUnread : TreeForm → List ℕ → List ℕ → Type 0
IsUnread Text line answer = (place : ℕ) × IsFaultPlace Second line place × (answer ≡ codes "bad " ++ decimal place)
IsUnread Json line answer =
    (IsJsonFault line NotJson × (answer ≡ codes "bad 1")) ⊎ (IsJsonFault line NotTree × (answer ≡ codes "bad 2"))

-- the answer to a line of JSON that is refused for this; for want of memory there is none
abbrev pub TellsJsonFault : JsonFault → List ℕ → Type 0
TellsJsonFault NotJson answer = answer ≡ codes "bad 1"
TellsJsonFault NotTree answer = answer ≡ codes "bad 2"
TellsJsonFault no_memory_for_json answer = ⊥

-- the tree that a line was found to be in a form, where nothing was written; or the answer that was written, where it is
-- none
abbrev pub Reads : TreeForm → List ℕ → Option TreeV → List ℕ → List ℕ → Type 0
Reads form line (Some t) old new = IsRead form t line × (new ≡ old)
Reads form line None old new = (answer : List ℕ) × IsUnread form line answer × (new ≡ old ++ answer)

-- `write` and `unjson`: a tree in the form is answered by the block that has it; where no block has it, by its first
-- misfit; and a line that is no tree by what is wrong with it
pub data WritesLine (form : TreeForm) (language : Language) (line answer : List ℕ) : Type 0 where
  writes_block : (t : TreeV) (block : List ℕ) → IsRead form t line → length block ≤ most_bits → HasTree language block t
      → answer ≡ codes "ok " ++ written block → WritesLine form language line answer
  writes_misfit : (t : TreeV) (path : List ℕ) (why : MisfitWhy) → IsRead form t line
      → ((block : List ℕ) → length block ≤ most_bits → HasTree language block t → ⊥) → Misses language t path why
      → answer ≡ misfit_text path why → WritesLine form language line answer
  writes_bad : IsUnread form line answer → WritesLine form language line answer

-- what answers a line of a command
abbrev pub AnswersLine : RuleCommand → Language → List ℕ → List ℕ → Type 0
AnswersLine (Show form) = ShowsLine form
AnswersLine (Write form) = WritesLine form

-- `migrate`: the text of a tree as it was written before is answered by its text of today; and a line that
-- is no such text by the place up to which it begins one
pub data MigratesLine (line answer : List ℕ) : Type 0 where
  migrates_tree : (t : TreeV) (text : List ℕ) → OldText t line → TreeText t text → answer ≡ codes "ok " ++ text
      → MigratesLine line answer
  migrates_place : (place : ℕ) → IsFaultPlace First line place → answer ≡ codes "bad " ++ decimal place
      → MigratesLine line answer

-- a line is answered so: its block, which has so many bits, or its fault
abbrev pub ShowsAs : TreeForm → Language → List ℕ → List ℕ → Option ℕ → Type 0
ShowsAs form language line answer (Some bits) =
    (block : List ℕ) × BlockLine line block × (bits ≡ length block) × ShowsBlock form language block answer
ShowsAs form language line answer None = (fault : BitsFault) × IsLineFault line fault × (answer ≡ fault_text fault)

-- the number of the fault that tells why a block gives no message
abbrev pub segment_fault : SegmentWhy → ℕ
segment_fault not_23_octets = 5
segment_fault NotControl = 6
segment_fault Reserved = 7
segment_fault NotFinal = 8
segment_fault NoFirst = 9

-- what the joiner gives for a block is answered: a message as a block of the language of downlink blocks, a first segment
-- by its radio transaction identifier, and a block that gives no message by its fault
abbrev pub AnswersJoined : Language → Joined → List ℕ → Type 0
AnswersJoined language (Whole message) answer = ShowsBlock Text language (bits_of_octets message.items) answer
AnswersJoined language (Waiting rti) answer = answer ≡ codes "wait " ++ decimal rti
AnswersJoined language (no_message why) answer = answer ≡ codes "bad " ++ decimal (segment_fault why)

-- `segments`: a block line is answered by what the joiner gives for its block behind those before; but bits that are no
-- whole octets, and a line that is no block line, are answered by their fault, and are not given to the joiner
pub data SegmentsLine (language : Language) (before : List (List ℕ)) (line answer : List ℕ) (after : List (List ℕ)) : Type 0 where
  joins_block : (block : List ℕ) → BlockLine line block → length block % 8 ≡ 0
      → AnswersJoined language (answer_to before (octets_of block)) answer
      → after ≡ before ++ octets_of block ∷ [] → SegmentsLine language before line answer after
  no_octets : (block : List ℕ) → BlockLine line block → length block % 8 ≢ 0 → answer ≡ codes "bad 5"
      → after ≡ before → SegmentsLine language before line answer after
  no_block : (fault : BitsFault) → IsLineFault line fault → answer ≡ fault_text fault → after ≡ before
      → SegmentsLine language before line answer after

-- how such a line takes the state further
abbrev pub Segments : Language → LineState → List ℕ → List ℕ → LineState → Type 0
Segments language before line text after =
    (answer : List ℕ) × SegmentsLine language before.blocks line answer after.blocks
    × (text ≡ answer ++ LINE_FEED ∷ []) × (after.watchers ≡ before.watchers)

-- a block of an entry as watchers are shown it: it is a string of the entry where its answer is no refusal
abbrev pub seen_of : Entry → List ℕ → List ℕ → Seen
seen_of entry block answer = record { entry = entry; bits = length block; ok = not (is_refusal answer) }

-- `replay`: a line of a capture is answered as its block is by the language of its entry, and watchers are shown the block.
-- A block line that is none is answered by its fault, and watchers are shown nothing; nor are they of a line that does
-- not begin with the word of an entry and a space
pub data CaptureLine (languages : Entry → Language) (line answer : List ℕ) (seen : Option Seen) : Type 0 where
  captures_block : (entry : Entry) (block_at : ℕ) (block : List ℕ) → IsCapture line entry block_at
      → BlockLine (drop block_at line) block → ShowsBlock Text (languages entry) block answer
      → seen ≡ Some (seen_of entry block answer) → CaptureLine languages line answer seen
  captures_fault : (entry : Entry) (block_at : ℕ) (fault : BitsFault) → IsCapture line entry block_at
      → IsLineFault (drop block_at line) fault → answer ≡ fault_text fault → seen ≡ None
      → CaptureLine languages line answer seen
  no_capture : ((entry : Entry) (block_at : ℕ) → ¬ IsCapture line entry block_at) → answer ≡ codes "bad 5" → seen ≡ None
      → CaptureLine languages line answer seen

-- the watchers that are left behind a line, and those that have then counted enough, in their order
abbrev pub left_behind : Option Seen → List Watched → List Watched
left_behind None watchers = watchers
left_behind (Some seen) watchers = still_watching seen watchers

abbrev pub done_behind : Option Seen → List Watched → List Watched
done_behind None watchers = []
done_behind (Some seen) watchers = done_watching seen watchers

-- a line with this answer takes watchers further: the reports of those that have counted enough stand behind the answer
abbrev pub TellsWatchers : List ℕ → Option Seen → List Watched → List ℕ → List Watched → Type 0
TellsWatchers answer seen before text after =
    (text ≡ answer ++ LINE_FEED ∷ reports (done_behind seen before)) × (after ≡ left_behind seen before)

-- how a line of `replay` takes the state further
abbrev pub Replays : (Entry → Language) → LineState → List ℕ → List ℕ → LineState → Type 0
Replays languages before line text after =
    (answer : List ℕ) × (seen : Option Seen) × CaptureLine languages line answer seen
    × TellsWatchers answer seen before.watchers text after.watchers × (after.blocks ≡ before.blocks)
