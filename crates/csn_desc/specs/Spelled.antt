-- The bits that literals and spare parts stand for, by the padding pattern. A place is that of a bit in
-- its block, from 0. (3GPP TS 24.007 Annex B has `L`, `H` and the pattern; TS 44.060 has spare padding.)
use Rattle.std.specs.Prelude.{◌≡◌, ℕ, suc, ◌-◌, List, [], ◌∷◌, length, replicate}
use Rattle.csn_bits.specs.Octets.{IsBits, octet_position, pattern}
use Rattle.csn_desc.specs.declared.reading.Reading.{Reading}
use Rattle.csn_desc.specs.declared.reading.Reading.TheVariants.{Received, Sent}
use Rattle.csn_desc.specs.declared.symbol.Symbol.{Symbol}
use Rattle.csn_desc.specs.declared.symbol.Symbol.TheVariants.{Zero, One, Low, High}

-- the bit that a symbol stands for at a place: `Low` is that of the pattern, `High` the other one
abbrev pub symbol_bit : Symbol → ℕ → ℕ
symbol_bit Zero place = 0
symbol_bit One place = 1
symbol_bit Low place = pattern (octet_position place)
symbol_bit High place = 1 - pattern (octet_position place)

-- the bits of a literal that begins at a place
abbrev pub spelled : List Symbol → ℕ → List ℕ
spelled [] place = []
spelled (symbol ∷ rest) place = symbol_bit symbol place ∷ spelled rest (suc place)

-- bits, from a place on, of a spare part that has one symbol: a receiver takes any, and a sender
-- writes each as the symbol
abbrev pub IsSpare : Reading → Symbol → ℕ → List ℕ → Type 0
IsSpare Received symbol place b = IsBits b
IsSpare Sent symbol place b = b ≡ spelled (replicate (length b) symbol) place
