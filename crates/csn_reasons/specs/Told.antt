-- What is written of a place of a text.
use Rattle.std.specs.Prelude.{ℕ, List, ◌∷◌, ◌++◌}
use Rattle.std.specs.Fmt.{decimal}

-- `FILE:LINE:COLUMN`
abbrev pub spot_text : List ℕ → ℕ → ℕ → List ℕ
spot_text file line column = file ++ 58 ∷ decimal line ++ 58 ∷ decimal column
