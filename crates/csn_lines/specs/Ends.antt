-- How a job over lines is over.
use Rattle.std.specs.Prelude.{◌≡◌, ℕ, Bool, if◌then◌else◌, Result, Err}
use Rattle.csn_io.specs.Faults.{Keeps, Rose}
use Rattle.csn_plan.specs.declared.ended.Ended.{Ended}
use Rattle.csn_plan.specs.declared.ended.Ended.TheVariants.{Done, SomeRefused, ReadFault, WriteFault, NoMemory, TooLong as Long}
use Rattle.csn_lines.specs.declared.fault.Fault.{Fault}
use Rattle.csn_lines.specs.declared.fault.Fault.TheVariants.{Read, Write, Memory, TooLong}

-- the end of a command that answered all lines, by whether it refused one
abbrev pub end_of : Bool → Ended
end_of refused = if refused then SomeRefused else Done

-- the end of a run that a fault stopped
abbrev pub end_by : Fault → Ended
end_by Read = ReadFault
end_by Write = WriteFault
end_by Memory = NoMemory
end_by TooLong = Long

-- what a job over lines tells of its source and its sink: it is over by a fault of one only where that shows it, and the
-- faults of one are as many as before where it does not blame it
pub record BlamesStreams (end : Result Ended Fault) (steady steady' : Type 0) (faults faults' : ℕ)
    (sink_steady sink_steady' : Type 0) (sink_faults sink_faults' : ℕ) : Type 0 where
  pub read : end ≡ Err Read → Rose faults faults'
  pub write : end ≡ Err Write → Rose sink_faults sink_faults'
  pub input : Keeps steady steady' faults faults' (end ≡ Err Read)
  pub out : Keeps sink_steady sink_steady' sink_faults sink_faults' (end ≡ Err Write)
