-- What stands between tokens. Comments from `--` on are those of 3GPP TS 24.007 Annex B; which bytes
-- separate tokens is this project's choice.
use Rattle.std.specs.Prelude.{◌≡◌, ℕ, ◌+◌, ◌<◌, ◌≤◌, ◌≢◌, Bool, ◌||◌, ◌==◌, ◌⊎◌, List, length, codes, IsTrue, Some, slice_get, slice_index, slice_range}
use Rattle.csn_lexer.specs.declared.gap.TheConstants.{LINE_FEED}

-- a space, tab, line feed or carriage return
abbrev pub is_separator : ℕ → Bool
is_separator c = (((c == 32) || (c == 9)) || (c == LINE_FEED)) || (c == 13)

-- a comment begins at this place
abbrev pub BeginsComment : List ℕ → ℕ → Type 0
BeginsComment text at = slice_range text at (at + 2) ≡ codes "--"

-- a comment goes from `at` to the next line feed, which is no part of it, or to the text's end
pub record IsComment (text : List ℕ) (at end : ℕ) : Type 0 where
  pub begins : BeginsComment text at
  pub forward : at < end
  pub within : end ≤ length text
  pub one_line : (k : ℕ) → at ≤ k → k < end → slice_index text k ≢ LINE_FEED
  pub ends : (end ≡ length text) ⊎ (slice_get text end ≡ Some LINE_FEED)

-- from `at` to `to` stand separators and comments alone
pub data IsGap (text : List ℕ) : ℕ → ℕ → Type 0 where
  none : {at to : ℕ} → at ≡ to → IsGap text at to
  separator : {at to : ℕ} → at < length text → IsTrue (is_separator (slice_index text at))
      → IsGap text (at + 1) to → IsGap text at to
  comment : {at end to : ℕ} → IsComment text at end → IsGap text end to → IsGap text at to
