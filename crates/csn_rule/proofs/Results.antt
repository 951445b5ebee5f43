-- What holds of an answer by what it is.
use Rattle.std.proofs.Common.{Option, Some, None}
use Rattle.std.specs.Prelude.{IfSome}

-- what follows of a value follows of one that may be there
pub some_map : {T : Type 0} (o : Option T) (P Q : T → Type 0) → ((x : T) → P x → Q x) → IfSome o P → IfSome o Q
some_map (Some x) P Q follows p = follows x p
some_map None P Q follows p = tt
