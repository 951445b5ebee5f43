-- What the forms over a reader and a writer do with them, where these tell their bytes: those that a reader has left, and
-- those that a writer holds. (This project's own choice.)
use Rattle.std.specs.Prelude.{◌≡◌, ℕ, List, length, Option}
use Rattle.std.specs.Io.KnownBytes.{Keeps, Appends, Consumes, IsAtEnd}
use Rattle.csn_io.specs.declared.source.Got.{Got}
use Rattle.csn_io.specs.declared.sink.Put.{Put}
use Rattle.csn_io.specs.Got.{IfBytes, OnEnd, OnFailed}
use Rattle.csn_io.specs.Put.{IfTook, UnlessTook}

-- a call of a source, by what its reader had left and has left: as many bytes were read as are told, the end is told only
-- where nothing was left, and a fault loses nothing
pub record ReadsAsTold (old new : Option (List ℕ)) (got : Got) : Type 0 where
  pub bytes : IfBytes got (λ n. (read : List ℕ) × Consumes old new read × (length read ≡ n))
  pub end : OnEnd got (IsAtEnd old)
  pub failed : OnFailed got (Keeps old new)

-- a put of a sink, by what its writer held and holds: as many bytes were written as are told, and none at a fault
pub record WritesAsTold (old new : Option (List ℕ)) (put : Put) : Type 0 where
  pub took : IfTook put (λ n. (written : List ℕ) × Appends old new written × (length written ≡ n))
  pub failed : UnlessTook put (Keeps old new)

-- a flush of a sink: what it tells as done is a flush of its writer, and the writer holds what it held
pub record FlushesAsTold (flushed : Type 0) (old new : Option (List ℕ)) (put : Put) : Type 0 where
  pub done : IfTook put (λ _. flushed)
  pub kept : Keeps old new
