-- What two names have alike.
use Rattle.std.specs.Prelude.{ℕ, ◌==◌, List}
use Rattle.std.specs.List.{common_prefix_len}

-- how many bytes two names have alike at their beginning
abbrev pub common : List ℕ → List ℕ → ℕ
common = common_prefix_len (λ x y. x == y)
