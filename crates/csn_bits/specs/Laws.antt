-- What holds of block lines, whichever call reads or writes them.
use Rattle.std.specs.Prelude.{◌≡◌, ℕ, ◌≤◌, ◌↔◌, List, length, None}
use Rattle.csn_bits.specs.Octets.{IsBits, most_bits}
use Rattle.csn_bits.specs.Line.{BlockLine, fault_of, written}

-- no two blocks share a written line
abbrev pub WrittenApart : Type 0
WrittenApart = (a b : List ℕ) → IsBits a → IsBits b → written a ≡ written b → a ≡ b

-- what is written for a block is read back as its bits
abbrev pub WrittenIsRead : Type 0
WrittenIsRead = (bits : List ℕ) → IsBits bits → length bits ≤ most_bits → BlockLine (written bits) bits

-- a line spells one block at most
abbrev pub SpellsOneBlock : Type 0
SpellsOneBlock = (line a b : List ℕ) → BlockLine line a → BlockLine line b → a ≡ b

-- a line has no fault exactly where it spells a block
abbrev pub FaultOrBlock : Type 0
FaultOrBlock = (line : List ℕ) → (fault_of line ≡ None) ↔ ((bits : List ℕ) × BlockLine line bits)
