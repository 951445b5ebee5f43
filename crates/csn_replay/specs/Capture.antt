-- Captures: lines that each name an entry and have a block of it. (This project's own choice.)
use Rattle.std.specs.Prelude.{◌≡◌, ◌+◌, ℕ, List, ◌∷◌, ◌++◌, length}
use Rattle.csn_catalogue.specs.declared.entry.Entry.{Entry}
use Rattle.csn_catalogue.specs.Entries.{entry_word}

abbrev pub space : ℕ
space = 32

-- the line begins with the entry's word and a space, behind which its block begins
abbrev pub IsCapture : List ℕ → Entry → ℕ → Type 0
IsCapture line entry block_at =
    (block : List ℕ) × (line ≡ entry_word entry ++ space ∷ block) × (block_at ≡ length (entry_word entry) + 1)
