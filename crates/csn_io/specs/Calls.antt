-- Calls that are planned to fail, of the forms in memory: each has the numbers of such calls, counted
-- from 0. The numbers have 32 bits, so a later call does not fail. (This project's own choice.)
use Rattle.std.specs.Prelude.{◌≡◌, ℕ, ◌+◌, ◌-◌, ◌^◌, min, List, Contains}
use Rattle.csn_io.specs.declared.memory.calls.Calls.{Calls}

-- none was made so far, and those with these numbers are to fail
abbrev pub IsPlanned : Calls → List ℕ → Type 0
IsPlanned calls failing = (calls.made ≡ 0) × (calls.failing.items ≡ failing)

-- the next call is to fail
abbrev pub IsDue : Calls → Type 0
IsDue calls = Contains calls.failing.items calls.made

-- one call later. The number stays at the last that 64 bits hold, which no plan names
abbrev pub after_call : Calls → Calls
after_call calls = record calls { made = min (calls.made + 1) (2 ^ 64 - 1) }
