-- Labels and names: words with one space between. 3GPP TS 24.007 Annex B has names in free text; what a
-- word is, and that one space joins words, is this project's own choice.
use Rattle.std.specs.Prelude.{ℕ, Bool, ◌==◌, List, IsTrue}
use Rattle.std.specs.List.{list_all, slice_split}
use Rattle.csn_lexer.specs.Word.{is_word}

-- each of the parts between the spaces is a word
abbrev pub is_label : List ℕ → Bool
is_label bytes = list_all is_word (slice_split (λ c. c == 32) bytes)

-- the bytes are words with one space between
abbrev pub IsLabel : List ℕ → Type 0
IsLabel bytes = IsTrue (is_label bytes)
