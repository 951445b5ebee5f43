-- What a shelf answers to the name of a file. (This project's own choice.)
use Rattle.std.specs.Prelude.{◌≡◌, ℕ, List, take, Option, Some, None, Result, Ok, Err, ⊤}
use Rattle.std.specs.Option.{option_map}
use Rattle.csn_io.specs.declared.shelf.ShelfFault.{ShelfFault}
use Rattle.csn_io.specs.declared.shelf.ShelfFault.TheVariants.{Missing, Failed, NoMemory}

-- the answer is Missing only where this holds
abbrev pub OnMissing : {T : Type 0} → Result T ShelfFault → Type 0 → Type 0
OnMissing (Ok file) P = ⊤
OnMissing (Err Missing) P = P
OnMissing (Err Failed) P = ⊤
OnMissing (Err NoMemory) P = ⊤

-- the answer is Missing, or this holds
abbrev pub UnlessMissing : {T : Type 0} → Result T ShelfFault → Type 0 → Type 0
UnlessMissing (Ok file) P = P
UnlessMissing (Err Missing) P = ⊤
UnlessMissing (Err Failed) P = P
UnlessMissing (Err NoMemory) P = P

-- the answer is Failed only where this holds
abbrev pub OnFailed : {T : Type 0} → Result T ShelfFault → Type 0 → Type 0
OnFailed (Ok file) P = ⊤
OnFailed (Err Missing) P = ⊤
OnFailed (Err Failed) P = P
OnFailed (Err NoMemory) P = ⊤

-- the answer is Failed, or this holds
abbrev pub UnlessFailed : {T : Type 0} → Result T ShelfFault → Type 0 → Type 0
UnlessFailed (Ok file) P = P
UnlessFailed (Err Missing) P = P
UnlessFailed (Err Failed) P = ⊤
UnlessFailed (Err NoMemory) P = P

-- the bytes are the first `most` bytes of the file with this name, or all of them where it has
-- fewer. Of a shelf that does not tell its files nothing is said
abbrev pub BeginsFile : Option (List ℕ → Option (List ℕ)) → List ℕ → ℕ → List ℕ → Type 0
BeginsFile None name most bytes = ⊤
BeginsFile (Some files) name most bytes = option_map (λ file. take most file) (files name) ≡ Some bytes

-- the shelf tells its files, and none of them has this name
abbrev pub LacksFile : Option (List ℕ → Option (List ℕ)) → List ℕ → Type 0
LacksFile None name = ⊥
LacksFile (Some files) name = files name ≡ None
