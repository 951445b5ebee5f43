-- What holds of the heads of lines, whoever reads them.
use Rattle.std.specs.Prelude.{◌≡◌, ◌+◌, ℕ, List, length}
use Rattle.csn_catalogue.specs.declared.entry.Entry.{Entry}
use Rattle.csn_catalogue.specs.Entries.{entry_word}
use Rattle.csn_replay.specs.declared.head.CaptureHead.{CaptureHead}
use Rattle.csn_replay.specs.declared.head.CaptureHead.TheVariants.{Word, Block, Missing}
use Rattle.csn_replay.specs.Capture.{IsCapture}
use Rattle.csn_replay.specs.Head.{HeadOf}

-- no entry has a block in the line
abbrev pub IsNoCapture : List ℕ → Type 0
IsNoCapture line = (entry : Entry) (at : ℕ) → IsCapture line entry at → ⊥

-- the line is a capture of this entry, whose block begins there, and of no other
pub record IsOnlyCapture (line : List ℕ) (entry : Entry) (block_at : ℕ) : Type 0 where
  pub capture : IsCapture line entry block_at
  pub only : (other : Entry) (at : ℕ) → IsCapture line other at → (other ≡ entry) × (at ≡ block_at)

-- what a head tells of the line that ends here
abbrev pub TellsCapture : CaptureHead → List ℕ → Type 0
TellsCapture (Word word) line = IsNoCapture line
TellsCapture (Block entry) line = IsOnlyCapture line entry (length (entry_word entry) + 1)
TellsCapture Missing line = IsNoCapture line

-- the head of a line tells whether the line is a capture, and of which entry
abbrev pub HeadsTellCaptures : Type 0
HeadsTellCaptures = (head : CaptureHead) (line : List ℕ) → HeadOf head line → TellsCapture head line
