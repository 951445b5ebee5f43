-- What a source answers. (This project's own choice.)
use Rattle.std.specs.Prelude.{◌≡◌, ℕ, List, [], ◌++◌, Option, Some, None, ⊤}
use Rattle.csn_io.specs.declared.source.Got.{Got}
use Rattle.csn_io.specs.declared.source.Got.TheVariants.{End, Bytes, Failed}

-- the answer is Bytes(n) only where this holds of n
abbrev pub IfBytes : Got → (ℕ → Type 0) → Type 0
IfBytes End P = ⊤
IfBytes (Bytes n) P = P n
IfBytes Failed P = ⊤

-- the answer is End only where this holds
abbrev pub OnEnd : Got → Type 0 → Type 0
OnEnd End P = P
OnEnd (Bytes n) P = ⊤
OnEnd Failed P = ⊤

-- the answer is Failed only where this holds
abbrev pub OnFailed : Got → Type 0 → Type 0
OnFailed End P = ⊤
OnFailed (Bytes n) P = ⊤
OnFailed Failed P = P

-- the answer is Bytes, or this holds
abbrev pub UnlessBytes : Got → Type 0 → Type 0
UnlessBytes End P = P
UnlessBytes (Bytes n) P = ⊤
UnlessBytes Failed P = P

-- the answer is Failed, or this holds
abbrev pub UnlessFailed : Got → Type 0 → Type 0
UnlessFailed End P = P
UnlessFailed (Bytes n) P = P
UnlessFailed Failed P = ⊤

-- a source that had `before` left gave these bytes, and has `after` left. What a source tells it
-- goes on to tell
abbrev pub Gave : Option (List ℕ) → Option (List ℕ) → List ℕ → Type 0
Gave None after bytes = after ≡ None
Gave (Some left) after bytes = (rest : List ℕ) × (left ≡ bytes ++ rest) × (after ≡ Some rest)

-- nothing is left, where that is told
abbrev pub NothingLeft : Option (List ℕ) → Type 0
NothingLeft None = ⊤
NothingLeft (Some left) = left ≡ []
