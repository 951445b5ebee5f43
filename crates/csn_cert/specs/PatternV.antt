-- Key patterns: what a certificate says of the bits with which something can begin. (This project's own choice.)
use Rattle.std.specs.Prelude.{◌≡◌, ◌≤◌, ◌-◌, ◌++◌, ℕ, Bool, List, length, take, replicate}
use Rattle.std.proofs.Common.{arith, sym}
use Rattle.std.proofs.lemmas.List.{length-take-le}
use Rattle.csn_cert.specs.declared.pattern.Mark.{Mark}
use Rattle.csn_cert.specs.declared.pattern.Mark.TheVariants.{Zero}
use Rattle.csn_cert.specs.declared.pattern.TheConstants.{MOST_MARKS}

-- the marks in their order, and whether the words are whole
pub record PatternV : Type 0 where
  pub marks : List Mark
  pub whole : Bool

-- ---- how a pattern is kept

-- marks, filled up with `Zero` to twelve
abbrev pub filled : List Mark → List Mark
filled marks = marks ++ replicate (MOST_MARKS - length marks) Zero

-- the first so many of twelve marks are meant, and `Zero` stands behind them
pub record IsFilled (marks : List Mark) (len : ℕ) : Type 0 where
  pub few : len ≤ MOST_MARKS
  pub twelve : length marks ≡ MOST_MARKS
  pub zeros : marks ≡ filled (take len marks)

-- what is kept comes back from what is meant
pub filled_back : (marks : List Mark) (len : ℕ) → IsFilled marks len → (filled (take len marks) ≡ marks) × (length (take len marks) ≡ len)
filled_back marks len is = (sym is.zeros, length-take-le len marks (omega (arith, is.few, is.twelve)))
