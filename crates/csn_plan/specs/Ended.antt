-- The exit statuses. They are this project's own choice.
use Rattle.std.specs.Prelude.{ℕ}
use Rattle.csn_plan.specs.declared.ended.Ended.{Ended}
use Rattle.csn_plan.specs.declared.ended.Ended.TheVariants as ended

-- the exit status of an end
abbrev pub status_of : Ended → ℕ
status_of ended.Done = 0
status_of ended.SomeRefused = 1
status_of ended.Usage = 2
status_of ended.BadDescription = 3
status_of ended.NotCertified = 4
status_of ended.ReadFault = 5
status_of ended.WriteFault = 6
status_of ended.NoMemory = 7
status_of ended.TooLong = 8
