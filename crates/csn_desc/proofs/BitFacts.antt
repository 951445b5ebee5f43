-- Zeros and ones, and the bits of literals and spare parts. Other crates cite this.
use Rattle.std.proofs.Common.{◌≡◌, ℕ, suc, ◌≤◌, List, [], ◌∷◌, ◌++◌, length, refl, sym, ap, arith, subst, lit<}
use Rattle.std.specs.Prelude.{replicate}
use Rattle.csn_bits.specs.Octets.{IsBits, bits_of_octet, pattern, octet_position}
use Rattle.csn_bits.proofs.Packing.{IsBits-append, IsBits-at, IsBits-bits_of_octet}
use Rattle.csn_desc.specs.declared.reading.Reading.{Reading}
use Rattle.csn_desc.specs.declared.reading.Reading.TheVariants.{Received, Sent}
use Rattle.csn_desc.specs.declared.symbol.Symbol.{Symbol}
use Rattle.csn_desc.specs.declared.symbol.Symbol.TheVariants.{Zero, One, Low, High}
use Rattle.csn_desc.specs.Spelled.{symbol_bit, spelled, IsSpare}

pub IsBits-front : (a b : List ℕ) → IsBits (a ++ b) → IsBits a
IsBits-front [] b p = tt
IsBits-front (x ∷ a) b p = (p.0, IsBits-front a b p.1)

pub IsBits-along : {a b : List ℕ} → a ≡ b → IsBits b → IsBits a
IsBits-along {a} {b} e p = let P : List ℕ → Type 0 = λ l. IsBits l in subst P (sym e) p

-- a whole of two pieces
pub IsBits-split : {w : List ℕ} (b1 b2 : List ℕ) → w ≡ b1 ++ b2 → IsBits b1 → IsBits b2 → IsBits w
IsBits-split b1 b2 e p q = IsBits-along e (IsBits-append b1 b2 p q)

-- the first few of some bits
pub IsBits-cut : {w : List ℕ} (b rest : List ℕ) → w ≡ b ++ rest → IsBits w → IsBits b
IsBits-cut b rest e p = IsBits-front b rest (IsBits-along (sym e) p)

pub pattern-le-one : (position : ℕ) → pattern position ≤ 1
pattern-le-one position = IsBits-at (bits_of_octet 0x2B) position (IsBits-bits_of_octet 0x2B (lit< tt))

pub symbol_bit-le-one : (s : Symbol) (place : ℕ) → symbol_bit s place ≤ 1
symbol_bit-le-one Zero place = omega arith
symbol_bit-le-one One place = omega arith
symbol_bit-le-one Low place = pattern-le-one (octet_position place)
symbol_bit-le-one High place = omega arith

pub IsBits-spelled : (run : List Symbol) (place : ℕ) → IsBits (spelled run place)
IsBits-spelled [] place = tt
IsBits-spelled (s ∷ run) place = (symbol_bit-le-one s place, IsBits-spelled run (suc place))

-- a literal has a bit for each symbol
pub length-spelled : (run : List Symbol) (place : ℕ) → length (spelled run place) ≡ length run
length-spelled [] place = refl
length-spelled (s ∷ run) place = ap suc (length-spelled run (suc place))

pub IsBits-spare : (r : Reading) (s : Symbol) (place : ℕ) (b : List ℕ) → IsSpare r s place b → IsBits b
IsBits-spare Received s place b p = p
IsBits-spare Sent s place b p = IsBits-along p (IsBits-spelled (replicate (length b) s) place)

-- the one bit that every reading takes
pub spelled_is_spare : (r : Reading) (s : Symbol) (o : ℕ) → IsSpare r s o (spelled (s ∷ []) o)
spelled_is_spare Received s o = IsBits-spelled (s ∷ []) o
spelled_is_spare Sent s o = refl
