-- What a sink answers. (This project's own choice.)
use Rattle.std.specs.Prelude.{◌≡◌, ℕ, ◌≤◌, List, ◌++◌, length, Option, Some, None, ⊤}
use Rattle.std.specs.Option.{option_map}
use Rattle.csn_io.specs.declared.sink.Put.{Put}
use Rattle.csn_io.specs.declared.sink.Put.TheVariants.{Took, Failed, NoMemory}

-- the answer is Took(n) only where this holds of n
abbrev pub IfTook : Put → (ℕ → Type 0) → Type 0
IfTook (Took n) P = P n
IfTook Failed P = ⊤
IfTook NoMemory P = ⊤

-- the answer is Took, or this holds
abbrev pub UnlessTook : Put → Type 0 → Type 0
UnlessTook (Took n) P = ⊤
UnlessTook Failed P = P
UnlessTook NoMemory P = P

-- the answer is Failed only where this holds
abbrev pub OnFailed : Put → Type 0 → Type 0
OnFailed (Took n) P = ⊤
OnFailed Failed P = P
OnFailed NoMemory P = ⊤

-- the answer is Failed, or this holds
abbrev pub UnlessFailed : Put → Type 0 → Type 0
UnlessFailed (Took n) P = P
UnlessFailed Failed P = ⊤
UnlessFailed NoMemory P = P

-- a sink that had taken `before` took these bytes after them. What a sink tells it goes on to tell
abbrev pub Appended : Option (List ℕ) → Option (List ℕ) → List ℕ → Type 0
Appended before after bytes = after ≡ option_map (λ taken. taken ++ bytes) before

-- `flushed` is the number of all bytes taken, where these are told
abbrev pub FlushedAll : Option (List ℕ) → Option ℕ → Type 0
FlushedAll taken flushed = flushed ≡ option_map (λ bytes. length bytes) taken

-- bytes that are flushed stay so: their number, where it is told, does not fall
abbrev pub KeepsFlushed : Option ℕ → Option ℕ → Type 0
KeepsFlushed None after = after ≡ None
KeepsFlushed (Some before) after = (now : ℕ) × (before ≤ now) × (after ≡ Some now)

-- a sink that comes of a call that flushes it, with some answer, where `gives` is what its form promises of one: what it had
-- taken it has taken, and where the call was made, all of that is flushed
pub record LeftByFlush {Sink : Type 0} (gives : Sink → Put → Sink → Type 0) (taken : Sink → Option (List ℕ))
    (flushed : Sink → Option ℕ) (after : Sink) : Type 0 where
  pub before : Sink
  pub answer : Put
  pub given : gives before answer after
  pub taken_stays : taken after ≡ taken before
  pub done : IfTook answer (λ _. FlushedAll (taken after) (flushed after))
