use Rattle.std.specs.Prelude.{◌≡◌, ℕ, List, Some}
use Rattle.csn_bits.specs.Line.{fault_of}
use Rattle.csn_bits.specs.declared.fault.BitsFault.{BitsFault}
use Rattle.csn_bits.specs.declared.fault.BitsFault.TheVariants as bits
use Rattle.csn_bits.specs.declared.fault.LineWhy.{LineWhy}
use Rattle.csn_bits.specs.declared.fault.LineWhy.TheVariants.{BadDigit, BadLength, BadFill, TooManyBits}

-- a line's fault, among those of bits
abbrev pub fault_for : LineWhy → BitsFault
fault_for (BadDigit column) = bits.BadDigit column
fault_for BadLength = bits.BadLength
fault_for BadFill = bits.BadFill
fault_for TooManyBits = bits.TooManyBits

-- the fault is the first that the line has
abbrev pub IsLineFault : List ℕ → BitsFault → Type 0
IsLineFault line fault = (why : LineWhy) × (fault_of line ≡ Some why) × (fault ≡ fault_for why)
