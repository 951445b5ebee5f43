-- Lists of patterns of which some meet, as the private functions find it: bit by bit. No public contract cites these
-- words.
use Rattle.std.specs.Prelude.{◌≡◌, ℕ, ◌<◌, ◌≤◌, List, length, slice_get, Some, Contains}
use Rattle.csn_cert.specs.declared.pattern.Mark.{Mark}
use Rattle.csn_cert.specs.PatternV.{PatternV}
use Rattle.csn_cert.specs.declared.pattern.TheConstants.{MOST_MARKS}
use Rattle.csn_good.specs.Apart.{MarksMeet}

-- the pattern has at the place a mark that stands for the bit
pub record MayHave (at : ℕ) (bit : Mark) (p : PatternV) : Type 0 where
  pub mark : Mark
  pub there : slice_get p.marks at ≡ Some mark
  pub meets : MarksMeet mark bit

-- some pattern has no mark at the place
pub record HasShort (patterns : List PatternV) (at : ℕ) : Type 0 where
  pub pattern : PatternV
  pub is_one : Contains patterns pattern
  pub short : length pattern.marks ≤ at

-- from the place on, at each one that both patterns have, some bit is one of both marks
pub record MeetFrom (at : ℕ) (left right : PatternV) : Type 0 where
  pub marks :
      (k : ℕ) (a b : Mark) → at ≤ k → slice_get left.marks k ≡ Some a → slice_get right.marks k ≡ Some b
      → MarksMeet a b

-- so do some pattern of the one list and some of the other
pub record ListsMeet (left right : List PatternV) (at : ℕ) : Type 0 where
  pub one : PatternV
  pub other : PatternV
  pub is_one : Contains left one
  pub is_other : Contains right other
  pub meet : MeetFrom at one other

-- each pattern of both lists has a mark at the place
pub record HaveMarks (left right : List PatternV) (at : ℕ) : Type 0 where
  pub left_long : HasShort left at → ⊥
  pub right_long : HasShort right at → ⊥
  pub room : at < MOST_MARKS
