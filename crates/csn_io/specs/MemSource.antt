-- A source in memory, call by call. (This project's own choice.)
use Rattle.std.specs.Prelude.{◌≡◌, ℕ, ◌^◌, ◌<◌, List, length, min}
use Rattle.csn_io.specs.declared.memory.source.MemSource.{MemSource}
use Rattle.csn_io.specs.declared.source.Got.{Got}
use Rattle.csn_io.specs.Got.{IfBytes, OnFailed, UnlessFailed}
use Rattle.csn_io.specs.Calls.{IsPlanned, IsDue, after_call}

-- at its beginning a source has a plan of the calls that fail, and gives at most so many bytes in a call
abbrev pub Plans : MemSource → ℕ → List ℕ → Type 0
Plans source most failing = (source.most ≡ most) × IsPlanned source.calls failing

-- one call, with so much room
pub record TakesAsPlanned (old : MemSource) (room : ℕ) (got : Got) (new : MemSource) : Type 0 where
  pub due : OnFailed got (IsDue old.calls)
  pub in_range : OnFailed got (old.calls.made < 2 ^ 32)
  pub not_due : UnlessFailed got (IsDue old.calls → ⊥)
  pub count : IfBytes got (λ n. n ≡ min (length old.unread) (min room old.most))
  pub counted : new.calls ≡ after_call old.calls
  pub most : new.most ≡ old.most
