-- What stands behind the first patterns of a sequence, by how many marks these have: only as many marks of it count as
-- there is room for. No public contract cites these words.
use Rattle.std.specs.Prelude.{◌≡◌, ℕ, ◌+◌, ◌-◌, ◌%◌, ◌≤◌, if◌then◌else◌, nat_le, false, List, [], ◌∷◌, length, take, map, Contains}
use Rattle.csn_cert.specs.PatternV.{PatternV}
use Rattle.csn_cert.specs.declared.pattern.TheConstants.{MOST_MARKS}
use Rattle.csn_certmake.specs.Patterns.{joined, patterns_in, HasSame}

-- the first marks of a pattern, as many as there is room for, cut where there are more
abbrev pub cut_to : ℕ → PatternV → PatternV
cut_to room p = if nat_le (length p.marks) room then p else record { marks = take room p.marks; whole = false }

-- none of the patterns has more marks than a pattern may have
abbrev pub HaveFewMarks : List PatternV → Type 0
HaveFewMarks patterns = (p : PatternV) → Contains patterns p → length p.marks ≤ MOST_MARKS

-- some pattern has so many marks
pub record HasSize (patterns : List PatternV) (size : ℕ) : Type 0 where
  pub pattern : PatternV
  pub there : Contains patterns pattern
  pub marks : length pattern.marks ≡ size

-- where some first pattern has so many marks, these are the patterns of what stands behind it, cut to the marks that
-- there is room for
abbrev pub AreBehindSize : List PatternV → ℕ → List PatternV → List PatternV → Type 0
AreBehindSize first size rests behind =
    HasSize first size
    → HasSame behind (map (cut_to (MOST_MARKS - size)) rests)

-- and so for each number of marks, behind patterns that begin at an octet position
pub record AreBehind (first : List PatternV) (octet : ℕ) (rests behind : List (List PatternV)) : Type 0 where
  pub sizes : length behind ≡ MOST_MARKS + 1
  pub each :
      (size : ℕ) → size ≤ MOST_MARKS
      → AreBehindSize first size (patterns_in rests ((octet + size) % 8)) (patterns_in behind size)

-- a pattern as it is where it is cut, and else joined with each of these
abbrev pub continued_with : List PatternV → PatternV → List PatternV
continued_with rests first = if first.whole then map (joined first) rests else first ∷ []

-- the same with each pattern of what stands behind as many marks
abbrev pub continued_by : List (List PatternV) → PatternV → List PatternV
continued_by behind first = continued_with (patterns_in behind (length first.marks)) first
