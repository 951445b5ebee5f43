-- Whether the width of a leaf is known ahead of its bits. A text then has it in the opening.
use Rattle.std.specs.Prelude.{◌≡◌, ℕ, ◌≤◌, Bool, true, false, Option, Some, None}

-- whether a width is known before the bits
abbrev pub IsTold : Option ℕ → Bool → Type 0
IsTold None told = told ≡ false
IsTold (Some width) told = (told ≡ true) × (1 ≤ width) × (width ≤ 64)
