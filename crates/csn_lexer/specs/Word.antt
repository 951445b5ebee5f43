-- Words: the names, labels, numbers and runs of bits of a description.
-- 3GPP TS 24.007 Annex B writes names in free text; which bytes a word has is this project's choice.
use Rattle.std.specs.Prelude.{ℕ, Bool, true, false, ◌&&◌, ◌||◌, ◌==◌, List, [], ◌∷◌, IsTrue}
use Rattle.std.specs.Char.{is_ascii_alphanumeric}

-- a letter, a digit or `_`
abbrev pub begins_word : ℕ → Bool
begins_word c = is_ascii_alphanumeric c || (c == 95)

-- a byte that may stand anywhere in a word but at its front: also `'`, `.` and `,`
abbrev pub goes_on_in_word : ℕ → Bool
goes_on_in_word c = ((begins_word c || (c == 39)) || (c == 46)) || (c == 44)

-- a byte that joins two pieces of a word: `/` or `-`
abbrev pub joins_pieces : ℕ → Bool
joins_pieces c = (c == 47) || (c == 45)

-- the bytes begin with a letter or a digit
abbrev pub starts_alphanumeric : List ℕ → Bool
starts_alphanumeric [] = false
starts_alphanumeric (c ∷ rest) = is_ascii_alphanumeric c

-- the bytes can stand in a word behind its first byte: each goes on in a word, or joins what is
-- before it to a letter or a digit behind it
abbrev pub is_word_tail : List ℕ → Bool
is_word_tail [] = true
is_word_tail (c ∷ rest) =
    (goes_on_in_word c || (joins_pieces c && starts_alphanumeric rest)) && is_word_tail rest

-- the bytes are a word
abbrev pub is_word : List ℕ → Bool
is_word [] = false
is_word (c ∷ rest) = begins_word c && is_word_tail rest

-- the bytes are a word, as a fact
abbrev pub IsWord : List ℕ → Type 0
IsWord bytes = IsTrue (is_word bytes)
