-- How far the reader's code has come in a text.
use Rattle.std.specs.Prelude.{◌≡◌, ℕ, ◌≤◌, ◌<◌, List, [], length, take, slice_index, Option, Some, None}
use Rattle.csn_desc.specs.TreeV.{TreeV}
use Rattle.csn_treetext.specs.declared.version.Version.{Version}
use Rattle.csn_treetext.specs.declared.stack.Frame.{Frame}
use Rattle.csn_treetext.specs.declared.next.Next.{Next}
use Rattle.csn_treetext.specs.declared.next.Next.TheVariants as next
use Rattle.csn_treetext.specs.declared.next.Taken.{Taken}
use Rattle.csn_treetext.specs.declared.next.Taken.TheVariants.{Up, Whole, Refused}
use Rattle.csn_treetext.specs.Place.{IsFaultPlace}
use Rattle.csn_treetext.specs.reader.Mode.{Mode, Start, Opened, Behind, Done}
use Rattle.csn_treetext.specs.reader.Numeral.{grown}
use Rattle.csn_treetext.specs.reader.Machine.{State, state, HasRoom, HasRoomBelow, step, steps, ended}

-- the bytes before a place lead to a state
abbrev pub Comes : Version → List ℕ → ℕ → State → Type 0
Comes version text at s = steps version (Some (state Start [])) (take at text) ≡ Some s

-- from a place on the text goes on as it does from a state: the bytes before it lead to this state, or to
-- one that only what stands at the place ends
pub record Stands (version : Version) (text : List ℕ) (at : ℕ) (s : State) : Type 0 where
  pub led : State
  pub comes : Comes version text at led
  pub goes_on : at < length text → step version led.mode led.stack (slice_index text at) ≡ step version s.mode s.stack (slice_index text at)
  pub ends : length text ≤ at → ended led.mode led.stack ≡ ended s.mode s.stack

abbrev pub mode_of : Next → Mode
mode_of next.Start = Start
mode_of next.Opened = Opened
mode_of next.Behind = Behind

-- each row that has begun can take as many trees as may come before it is looked at again
abbrev pub HasRoomFor : Next → List Frame → Type 0
HasRoomFor next.Start stack = HasRoom stack
HasRoomFor next.Opened stack = HasRoom stack
HasRoomFor next.Behind stack = HasRoomBelow stack

-- after a whole tree: the outermost tree that it ends, or none where that stands in a row
abbrev pub ended_with : Option TreeV → List Frame → State
ended_with None stack = state Behind stack
ended_with (Some t) stack = state (Done t) stack

-- what was read reaches to a place, at least to `from`
abbrev pub Takes : Version → List ℕ → ℕ → List Frame → Taken → Type 0
Takes version text from stack (Up next end) =
    (from ≤ end) × (end ≤ length text) × HasRoomFor next stack × Stands version text end (state (mode_of next) stack)
Takes version text from stack (Whole t end) = (end ≤ length text) × Stands version text end (state (Done t) stack)
Takes version text from stack (Refused place) = IsFaultPlace version text place

-- a mode with a number goes on with each digit to the mode with the number that has grown by it
abbrev pub Grows : Version → ℕ → (ℕ → Mode) → List Frame → Type 0
Grows version most to stack = (number byte next : ℕ) → grown most (Some number) byte ≡ Some next
    → step version (to number) stack byte ≡ Some (state (to next) stack)

-- the digits between two places lead from a number to another one
abbrev pub LeadsTo : ℕ → List ℕ → ℕ → ℕ → ℕ → ℕ → Type 0
LeadsTo most text at number end other =
    (version : Version) (to : ℕ → Mode) (stack : List Frame) → Grows version most to stack
    → Comes version text at (state (to number) stack) → Comes version text end (state (to other) stack)
