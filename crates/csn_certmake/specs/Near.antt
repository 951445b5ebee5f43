-- Parts near the beginning of a sequence, and those from behind which no marks count. No public contract cites these
-- words.
use Rattle.std.specs.Prelude.{◌≡◌, ℕ, zero, suc, ◌+◌, ◌≤◌, List, length, drop, map, slice_get, Some, Contains, true}
use Rattle.csn_cert.specs.PatternV.{PatternV}
use Rattle.csn_certmake.specs.Patterns.{patterns_in, HasSame, IsRow, sequence_of}
use Rattle.csn_certmake.specs.Behind.{cut_to}

-- each whole pattern has at least so many marks
abbrev pub HaveMarks : ℕ → List PatternV → Type 0
HaveMarks least patterns = (p : PatternV) → Contains patterns p → p.whole ≡ true → least ≤ length p.marks

-- the first few parts, by the patterns of each at each octet position, have together at least so many marks, where all of
-- their patterns are whole
abbrev pub HaveTogether : (ℕ → ℕ → List PatternV) → List ℕ → ℕ → ℕ → Type 0
HaveTogether of_part parts zero marks = marks ≡ 0
HaveTogether of_part parts (suc count) marks =
    (least before : ℕ)
    × ((i octet : ℕ) → slice_get parts count ≡ Some i → octet ≤ 7 → HaveMarks least (of_part i octet))
    × HaveTogether of_part parts count before
    × (marks ≤ before + least)

-- the patterns have the same first marks, up to so many
abbrev pub HasSameTo : ℕ → List PatternV → List PatternV → Type 0
HasSameTo room patterns others = HasSame (map (cut_to room) patterns) (map (cut_to room) others)

-- the row has patterns with these first marks at each octet position
pub record IsRowTo (room : ℕ) (of : ℕ → List PatternV) (row : List (List PatternV)) : Type 0 where
  pub eight : length row ≡ 8
  pub same : (octet : ℕ) → octet ≤ 7 → HasSameTo room (patterns_in row octet) (of octet)

-- the row is that of the parts from one on, without their marks; and where there are no more parts, it is their own
pub record IsFar (of_part : ℕ → ℕ → List PatternV) (parts : List ℕ) (from : ℕ) (row : List (List PatternV)) : Type 0 where
  pub ends : IsRowTo 0 (sequence_of of_part (drop from parts)) row
  pub whole : length parts ≤ from → IsRow (sequence_of of_part (drop from parts)) row
