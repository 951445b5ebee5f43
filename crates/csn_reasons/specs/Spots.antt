-- Where places stand in a text.
use Rattle.std.specs.Prelude.{◌≡◌, ℕ, ◌+◌, ◌==◌, if◌then◌else◌, Bool, ◌&&◌, ◌||◌, nat_le, List, [], ◌∷◌, ◌++◌, length, slice_range, ◌⊎◌}

-- how many line feeds these bytes have
abbrev pub feeds : List ℕ → ℕ
feeds [] = 0
feeds (byte ∷ bytes) = (if byte == 10 then 1 else 0) + feeds bytes

-- they are whole lines: there are none, or the last is a line feed
abbrev pub AreWholeLines : List ℕ → Type 0
AreWholeLines bytes = (bytes ≡ []) ⊎ ((front : List ℕ) × (bytes ≡ front ++ 10 ∷ []))

-- what stands behind these bytes of a text stands in this line and this column, counted from 1: the line by the line
-- feeds, the column by the bytes of the line
pub record IsSpot (bytes : List ℕ) (line column : ℕ) : Type 0 where
  pub lines : line ≡ 1 + feeds bytes
  pub columns : (whole last : List ℕ) × (bytes ≡ whole ++ last) × AreWholeLines whole × (feeds last ≡ 0) × (column ≡ 1 + length last)

-- a byte goes on from one line and column to another
abbrev pub IsBehind : ℕ → ℕ → ℕ → ℕ → ℕ → Type 0
IsBehind byte line column line' column' =
    ((byte ≡ 10) × (line' ≡ line + 1) × (column' ≡ 1)) ⊎ ((byte ≡ 10 → ⊥) × (line' ≡ line) × (column' ≡ column + 1))

-- what stands in a list from one place to another, or nothing where it has no such places
abbrev pub piece_of : {X : Type 0} → List X → ℕ → ℕ → List X
piece_of xs from to = if nat_le from to && nat_le to (length xs) then slice_range xs from to else []

-- does a byte end a line: is it a line feed or a carriage return?
abbrev pub ends_line : ℕ → Bool
ends_line byte = byte == 10 || byte == 13
