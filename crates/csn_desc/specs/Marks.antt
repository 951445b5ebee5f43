-- Marks of the fields that counts stand on.
use Rattle.std.specs.Prelude.{ℕ, Bool, true, false, ◌==◌, List, set, Option, Some, None}

-- is the field the one that is stood on?
abbrev pub stands_on : ℕ → Option ℕ → Bool
stands_on field None = false
stands_on field (Some other) = other == field

-- the marks with one more, where there is a mark for the field
abbrev pub marked : Option ℕ → List Bool → List Bool
marked None marks = marks
marked (Some field) marks = set marks field true
