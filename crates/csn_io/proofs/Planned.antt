-- What a shelf in memory tells where a call is to fail, of a file that is held.
use Rattle.std.proofs.Common.{◌≡◌, ℕ, ◌<◌, ◌^◌, List, [], length, Option, Some, None, Err, ap, sym, ◌∙◌, arith}
use Rattle.std.specs.Prelude.{Contains}
use Rattle.std.specs.Option.{option_map}
use Rattle.csn_io.specs.declared.memory.shelf.MemShelf.{MemShelf}
use Rattle.csn_io.specs.declared.shelf.ShelfFault.TheVariants.{Failed}
use Rattle.csn_io.specs.Calls.{IsDue, after_call}
use Rattle.csn_io.specs.Files.{file_of}
use Rattle.csn_io.specs.MemShelf.{FetchesAsPlanned}

-- no call is to fail where none is planned
pub never_due : (failing : List ℕ) (made : ℕ) → Contains failing made → failing ≡ [] → ⊥
never_due failing made due none = omega (arith, due.1, ap length none)

-- a name is held, and is not lacking
pub held_there : {A B : Type 0} (f : A → B) (told : Option A) (x : A) → told ≡ Some x → option_map f told ≡ None → ⊥
held_there f told x is none = (let both : Some (f x) ≡ None = sym (ap (option_map f) is) ∙ none in cc)

pub fails_due :
    (old new : MemShelf) (name : List ℕ) (most : ℕ) → (file_of old.files name ≡ None → ⊥) → new.calls ≡ after_call old.calls
    → IsDue old.calls → old.calls.made < 2 ^ 32 → FetchesAsPlanned old name most (Err Failed) new
fails_due old new name most held counted due in_range =
    record { held = held; due = due; in_range = in_range; not_due = tt; at_most = tt; counted = counted }
