-- Patterns by numbers, and sets of numbers. No public contract cites these words.
use Rattle.std.specs.Prelude.{◌≡◌, ℕ, zero, suc, ◌+◌, ◌-◌, ◌*◌, ◌/◌, ◌%◌, ◌==◌, if◌then◌else◌, Bool, true, false, List, [], ◌∷◌, Contains}
use Rattle.csn_cert.specs.declared.pattern.Mark.{Mark}
use Rattle.csn_cert.specs.declared.pattern.Mark.TheVariants.{Zero, One, Any}
use Rattle.csn_cert.specs.PatternV.{PatternV}

-- ---- a number for each pattern

abbrev pub digit_of : Mark → ℕ
digit_of Zero = 1
digit_of One = 2
digit_of Any = 3

abbrev pub marks_number : List Mark → ℕ
marks_number [] = 0
marks_number (mark ∷ marks) = 3 * marks_number marks + digit_of mark

abbrev pub end_number : Bool → ℕ
end_number true = 1
end_number false = 0

abbrev pub pattern_number : PatternV → ℕ
pattern_number p = 2 * marks_number p.marks + end_number p.whole

-- ---- and a pattern for each number

abbrev pub mark_for : ℕ → Mark
mark_for digit = if digit == 1 then Zero else (if digit == 2 then One else Any)

-- the marks of a number, of which at most so many are told
abbrev pub marks_of : ℕ → ℕ → List Mark
marks_of zero number = []
marks_of (suc count) number =
    if number == 0 then [] else mark_for ((number - 1) % 3 + 1) ∷ marks_of count ((number - 1) / 3)

abbrev pub pattern_of : ℕ → PatternV
pattern_of number = record { marks = marks_of 12 (number / 2); whole = number % 2 == 1 }

-- some pattern of at most twelve marks has the number
abbrev pub IsNumber : ℕ → Type 0
IsNumber number = pattern_number (pattern_of number) ≡ number

abbrev pub AreNumbers : List ℕ → Type 0
AreNumbers numbers = (n : ℕ) → Contains numbers n → IsNumber n

-- ---- marked numbers

-- the places that are marked, from this one on
abbrev pub marked : ℕ → List Bool → List ℕ
marked at [] = []
marked at (true ∷ marks) = at ∷ marked (suc at) marks
marked at (false ∷ marks) = marked (suc at) marks
