-- The head of a capture's line, read while the line comes: the word of an entry, and the space behind it.
use Rattle.std.specs.Prelude.{◌≡◌, ◌≢◌, ◌+◌, ℕ, List, [], ◌∷◌, ◌++◌, length, drop, All}
use Rattle.csn_catalogue.specs.declared.entry.Entry.{Entry}
use Rattle.csn_catalogue.specs.Entries.{entry_word}
use Rattle.csn_replay.specs.declared.head.CaptureHead.{CaptureHead}
use Rattle.csn_replay.specs.declared.head.CaptureHead.TheVariants.{Word, Block, Missing}
use Rattle.csn_replay.specs.Capture.{IsCapture, space}

-- no byte is a space
abbrev pub HasNoSpace : List ℕ → Type 0
HasNoSpace line = All (λ byte. byte ≢ space) line

-- the head is that of the line so far: the line itself, where no space has come; the entry whose word and space the line
-- begins with; or none, where no line that begins with this one is a capture
abbrev pub HeadOf : CaptureHead → List ℕ → Type 0
HeadOf (Word word) line = (line ≡ word.items) × HasNoSpace line
HeadOf (Block entry) line = (block : List ℕ) × (line ≡ entry_word entry ++ space ∷ block)
HeadOf Missing line = (more : List ℕ) (entry : Entry) (at : ℕ) → IsCapture (line ++ more) entry at → ⊥

-- what has come of the block: what stands behind the word and the space
abbrev pub block_so_far : CaptureHead → List ℕ → List ℕ
block_so_far (Word word) line = []
block_so_far (Block entry) line = drop (length (entry_word entry) + 1) line
block_so_far Missing line = []
