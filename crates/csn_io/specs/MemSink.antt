-- A sink in memory, call by call. (This project's own choice.)
use Rattle.std.specs.Prelude.{◌≡◌, ◌≢◌, ℕ, ◌^◌, ◌<◌, List, min}
use Rattle.csn_io.specs.declared.memory.sink.MemSink.{MemSink}
use Rattle.csn_io.specs.declared.sink.Put.{Put}
use Rattle.csn_io.specs.declared.sink.Put.TheVariants.{NoMemory}
use Rattle.csn_io.specs.Put.{IfTook, OnFailed, UnlessFailed}
use Rattle.csn_io.specs.Calls.{IsPlanned, IsDue, after_call}

-- at its beginning a sink has a plan of the calls that fail, and takes at most so many bytes in a call
abbrev pub Plans : MemSink → ℕ → List ℕ → Type 0
Plans sink most failing = (sink.most ≡ most) × IsPlanned sink.calls failing

-- one call, be it a put or a flush
pub record AnswersAsPlanned (old : MemSink) (put : Put) (new : MemSink) : Type 0 where
  pub due : OnFailed put (IsDue old.calls)
  pub in_range : OnFailed put (old.calls.made < 2 ^ 32)
  pub not_due : UnlessFailed put (IsDue old.calls → ⊥)
  pub counted : new.calls ≡ after_call old.calls
  pub most : new.most ≡ old.most

-- a put of a piece of this length
pub record PutsAsPlanned (old : MemSink) (len : ℕ) (put : Put) (new : MemSink) : Type 0 where
  pub call : AnswersAsPlanned old put new
  pub count : IfTook put (λ n. n ≡ min len old.most)

-- a flush, for which no memory is wanted
pub record FlushesAsPlanned (old : MemSink) (put : Put) (new : MemSink) : Type 0 where
  pub call : AnswersAsPlanned old put new
  pub memory : put ≢ NoMemory
