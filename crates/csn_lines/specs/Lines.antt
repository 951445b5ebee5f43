-- The lines of an input, and the text that answers them. They are this project's own choice.
use Rattle.std.specs.Prelude.{◌≢◌, ℕ, ◌==◌, Bool, if◌then◌else◌, ◌||◌, true, false, nat_lt, ◌-◌, slice_index, take}
use Rattle.std.specs.Prelude.{List, [], ◌∷◌, length, map, filter, codes, nat_eq}
use Rattle.std.specs.List.{AllByRecursion, flat_map, starts_with}
use Rattle.csn_lines.specs.declared.lines.TheConstants.{LINE_FEED, CARRIAGE_RETURN}
use Rattle.csn_lines.specs.declared.lines.Answered.{Answered}
use Rattle.csn_lines.specs.declared.lines.Answered.TheVariants.{Given, Refused}

-- a byte before the first of some lines
abbrev pub begin_first : ℕ → List (List ℕ) → List (List ℕ)
begin_first c [] = (c ∷ []) ∷ []
begin_first c (line ∷ lines) = (c ∷ line) ∷ lines

-- the pieces of an input between its line feeds: the last piece is what stands behind the
-- last line feed
abbrev pub between_feeds : List ℕ → List (List ℕ)
between_feeds [] = [] ∷ []
between_feeds (c ∷ bytes) = if c == LINE_FEED then [] ∷ between_feeds bytes else begin_first c (between_feeds bytes)

-- no line feed is among the bytes
abbrev pub HasNoFeed : List ℕ → Type 0
HasNoFeed bytes = AllByRecursion (λ c. c ≢ LINE_FEED) bytes

-- a line without one carriage return at its end
abbrev pub without_return : List ℕ → List ℕ
without_return line = if slice_index line (length line - 1) == CARRIAGE_RETURN then take (length line - 1) line else line

-- the lines among some pieces that have an answer, as they are answered: each without its carriage
-- return, and no empty one
abbrev pub answered : List (List ℕ) → List (List ℕ)
answered pieces = filter (λ line. nat_lt 0 (length line)) (map without_return pieces)

-- the lines of an input that are answered. One that no line feed ends counts too
abbrev pub lines_of : List ℕ → List (List ℕ)
lines_of input = answered (between_feeds input)

-- what lines give, one behind the other
abbrev pub text_of : List (List ℕ) → List ℕ
text_of texts = flat_map (λ text. text) texts

-- what refuses its line: it begins as a refusal
abbrev pub is_refusal : List ℕ → Bool
is_refusal text = starts_with nat_eq text (codes "no") || starts_with nat_eq text (codes "bad")

-- whether an answer refuses its line
abbrev pub is_refused : Answered → Bool
is_refused Given = false
is_refused Refused = true
