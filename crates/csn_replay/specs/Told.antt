-- What came of handing reports to a sink. (This project's own choice.)
use Rattle.std.specs.Prelude.{◌≡◌, ℕ, List, [], ◌++◌, Option}
use Rattle.csn_io.specs.Put.{Appended}
use Rattle.csn_replay.specs.declared.told.Told.{Told}
use Rattle.csn_replay.specs.declared.told.Told.TheVariants.{Ok}

-- a sink that had taken `before` has taken `after`: behind it the text stands, or where the answer is not Ok a prefix of
-- the text
abbrev pub Wrote : Told → Option (List ℕ) → Option (List ℕ) → List ℕ → Type 0
Wrote told before after text =
    (front rest : List ℕ) × (text ≡ front ++ rest) × Appended before after front × (told ≡ Ok → rest ≡ [])
