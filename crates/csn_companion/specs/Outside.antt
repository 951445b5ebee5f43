-- How a run of the companion ends, and what it tells of the outside. (This project's own choice.)
use Rattle.std.specs.Prelude.{◌≡◌, ◌⊎◌, ℕ, List, Option, Some, Result, Ok, Err, ⊤}
use Rattle.csn_io.specs.Faults.{Rose}
use Rattle.csn_io.specs.ShelfFault.{LacksFile}
use Rattle.csn_lines.specs.Ends.{end_by}
use Rattle.csn_lines.specs.declared.fault.Fault.{Fault}
use Rattle.csn_plan.specs.declared.ended.Ended.{Ended}
use Rattle.csn_plan.specs.declared.ended.Ended.TheVariants.{Done, SomeRefused, BadDescription, NotCertified}

-- why a file cannot be read: the shelf met a fault, and has its name as that of the last one, or the shelf tells its files
-- and does not hold it
abbrev pub CannotRead : Option (List ℕ → Option (List ℕ)) → ℕ → ℕ → Option (List ℕ) → List ℕ → Type 0
CannotRead files before after last_fault name = (Rose before after × (last_fault ≡ Some name)) ⊎ LacksFile files name

-- the end of a run whose job was over so, where all that waited was handed on and flushed
abbrev pub end_with : Result Ended Fault → Ended
end_with (Ok ended) = ended
end_with (Err fault) = end_by fault

-- the end of a run that met no fault: all lines were answered, or the description was refused
abbrev pub IsFinished : Ended → Type 0
IsFinished Done = ⊤
IsFinished SomeRefused = ⊤
IsFinished BadDescription = ⊤
IsFinished NotCertified = ⊤
IsFinished _ = ⊥
