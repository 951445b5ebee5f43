-- A shelf in memory, call by call. (This project's own choice.)
use Rattle.std.specs.Prelude.{◌≡◌, ℕ, ◌^◌, ◌<◌, ◌≤◌, List, length, None, Result, Vec, IfOk, OnOk}
use Rattle.std.specs.declared.alloc.Global.{Global}
use Rattle.csn_io.specs.declared.memory.shelf.MemShelf.{MemShelf}
use Rattle.csn_io.specs.declared.shelf.ShelfFault.{ShelfFault}
use Rattle.csn_io.specs.ShelfFault.{OnFailed, UnlessMissing}
use Rattle.csn_io.specs.Files.{file_of}
use Rattle.csn_io.specs.Calls.{IsPlanned, IsDue, after_call}

-- at its beginning a shelf has a plan of the calls that fail
abbrev pub Plans : MemShelf → List ℕ → Type 0
Plans shelf failing = IsPlanned shelf.calls failing

-- one call with this name, for so many bytes. Want of memory may stand in for a file or for a fault, and not for a file
-- that is not held
pub record FetchesAsPlanned (old : MemShelf) (name : List ℕ) (most : ℕ) (fetched : Result (Vec ℕ Global) ShelfFault) (new : MemShelf) : Type 0 where
  pub held : UnlessMissing fetched (file_of old.files name ≡ None → ⊥)
  pub due : OnFailed fetched (IsDue old.calls)
  pub in_range : OnFailed fetched (old.calls.made < 2 ^ 32)
  pub not_due : OnOk fetched (IsDue old.calls → ⊥)
  pub at_most : IfOk fetched (λ file. length file.items ≤ most)
  pub counted : new.calls ≡ after_call old.calls
