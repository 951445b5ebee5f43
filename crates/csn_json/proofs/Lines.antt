-- Lines that are written for blocks, as the reader sees them.
use Rattle.std.proofs.Common.{◌≡◌, ℕ, zero, suc, ◌%◌, ◌≤◌, List, [], ◌∷◌, length, map, ◌⊎◌, inl, inr, sym, ap, ◌∙◌, subst, arith, length-append}
use Rattle.hex.specs.Hex.{upper_digits, encode_upper}
use Rattle.hex.proofs.HexLemmas.{length-encode_with}
use Rattle.csn_bits.specs.Octets.{octets_of}
use Rattle.csn_bits.specs.Line.{BlockLine, written, tail_written, upper}
use Rattle.csn_bits.specs.Fault.{IsLineFault}
use Rattle.csn_bits.specs.declared.fault.BitsFault.{BitsFault}
use Rattle.csn_bits.specs.declared.fault.BitsFault.TheVariants.{NoMemory}
use Rattle.csn_bits.specs.declared.feed.TheConstants.{MOST_LINE}
use Rattle.csn_bits.proofs.Packing.{length-octets_of}
use Rattle.csn_bits.specs.Laws.{WrittenIsRead, FaultOrBlock}
use Rattle.csn_json.specs.Reading.{IsWritten}

tail_is_short : (n : ℕ) → length (tail_written n) ≤ 2
tail_is_short zero = omega arith
tail_is_short (suc n) = omega arith

written_is_short : (bits : List ℕ) → length bits ≤ 524288 → length (written bits) ≤ MOST_LINE
written_is_short [] few = omega arith
written_is_short (bit ∷ rest) few =
    let bits : List ℕ = bit ∷ rest in
    let octets = length-octets_of bits in
    let twice = length-encode_with upper_digits (octets_of bits) in
    let both = length-append (encode_upper (octets_of bits)) (tail_written (length bits % 8)) in
    omega (arith, octets, twice, both, few, tail_is_short (length bits % 8))

-- a line that is written is no longer than lines are
pub is_short : (line bits : List ℕ) → IsWritten line bits → length line ≤ MOST_LINE
is_short line bits is = omega (arith, ap (λ l. length l) is.spelled, written_is_short bits is.few)

-- it spells its bits
pub spells : WrittenIsRead → (line bits : List ℕ) → IsWritten line bits → BlockLine line bits
spells read line bits is = subst (λ l. BlockLine l bits) (sym is.spelled) (read bits is.zeros_and_ones is.few)

-- it has no digit in lower case
pub is_upper : WrittenIsRead → (line bits : List ℕ) → IsWritten line bits → map upper line ≡ line
is_upper read line bits is = (spells read line bits is).spelled ∙ sym is.spelled

-- a line without digits in lower case is the one that is written for the bits that it spells
pub from_block_line : (line bits : List ℕ) → map upper line ≡ line → BlockLine line bits → IsWritten line bits
from_block_line line bits same is = record { zeros_and_ones = is.zeros_and_ones; few = is.few; spelled = sym same ∙ is.spelled }

-- no line that is written for bits is told a fault
pub no_fault_told : WrittenIsRead → FaultOrBlock → (line bits : List ℕ) (fault : BitsFault)
    → IsWritten line bits → (fault ≡ NoMemory → ⊥) → ((fault ≡ NoMemory) ⊎ IsLineFault line fault) → ⊥
no_fault_told read decided line bits fault is other (inl memory) = other memory
no_fault_told read decided line bits fault is other (inr told) = let none = (decided line).1 (bits, spells read line bits is) in let some = told.1 in absurd cc
