-- How far a capture's open line has been taken.
use Rattle.std.specs.Prelude.{◌≡◌, ℕ, ◌==◌, if◌then◌else◌, List, [], Some, slice_get}
use Rattle.csn_desc.specs.Nodes.{DescV}
use Rattle.csn_catalogue.specs.Entries.{entry_place}
use Rattle.csn_json.specs.declared.form.TreeForm.TheVariants.{Text}
use Rattle.csn_movetext.specs.Lines.{LineV, ReadsLine}
use Rattle.csn_replay.specs.declared.head.CaptureHead.{CaptureHead}
use Rattle.csn_replay.specs.declared.head.CaptureHead.TheVariants.{Word, Block, Missing}
use Rattle.csn_replay.specs.Head.{HeadOf, block_so_far}

abbrev pub desc_of : LineV → DescV
desc_of writer = writer.desc

-- each writes trees as text
abbrev pub AreTexts : List LineV → Type 0
AreTexts writers = (place : ℕ) (writer : LineV) → slice_get writers place ≡ Some writer → writer.form ≡ Text

-- each has taken nothing of a line
abbrev pub AreFresh : List LineV → Type 0
AreFresh writers = (place : ℕ) (writer : LineV) → slice_get writers place ≡ Some writer → ReadsLine writer []

-- the bytes that the writer at a place has taken: that of the entry its block so far, and the others none
abbrev pub taken_at : CaptureHead → List ℕ → ℕ → List ℕ
taken_at (Word word) line place = []
taken_at (Block entry) line place = if place == entry_place entry then block_so_far (Block entry) line else []
taken_at Missing line place = []

-- a line has come so far: its head, and of its block what the writers have taken
pub record ReadsCapture (writers : List LineV) (head : CaptureHead) (line : List ℕ) : Type 0 where
  pub head_is : HeadOf head line
  pub each : (place : ℕ) (writer : LineV) → slice_get writers place ≡ Some writer → ReadsLine writer (taken_at head line place)
