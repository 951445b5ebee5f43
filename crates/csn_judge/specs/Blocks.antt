-- Whether a block is a string of a description, and the bits of one that stands in pieces. (This project's own choice.)
use Rattle.std.specs.Prelude.{◌≡◌, ◌≤◌, ◌*◌, ◌+◌, ℕ, List, [], ◌∷◌, ◌++◌, length, take}
use Rattle.csn_bits.specs.Octets.{bits_of_octets, most_bits}
use Rattle.csn_desc.specs.Nodes.{DescV}
use Rattle.csn_desc.specs.TreeV.{TreeV}
use Rattle.csn_desc.specs.Means.{NMeans}
use Rattle.csn_desc.specs.Follows.{IsPlace}
use Rattle.csn_judge.specs.declared.verdict.Judged.{Judged}
use Rattle.csn_judge.specs.declared.verdict.Judged.TheVariants.{Ok, Refused}
use Rattle.csn_judge.specs.Judging.{JudgeV, JudgesFor}
use Rattle.csn_judge.specs.declared.block.Piece.{Piece}

-- some tree has the bits; or none has, and this many of them can be followed
abbrev pub IsJudged : DescV → List ℕ → Judged → Type 0
IsJudged d block Ok = (t : TreeV) × NMeans d 0 0 [] block t
IsJudged d block (Refused place) = IsPlace d block place × ((t : TreeV) → ¬ NMeans d 0 0 [] block t)

-- a judge that stands for no bits
abbrev pub IsFresh : JudgeV → Type 0
IsFresh judge = JudgesFor judge [] [] × (judge.seen ≡ 0)

-- ---- pieces of a block

-- the bits of a piece
abbrev pub bits_of_piece : Piece → List ℕ
bits_of_piece piece = take piece.bits (bits_of_octets piece.octets.now)

-- the bits of pieces, one behind another
abbrev pub bits_of : List Piece → List ℕ
bits_of [] = []
bits_of (piece ∷ rest) = bits_of_piece piece ++ bits_of rest

-- how many they are
abbrev pub bits_in : List Piece → ℕ
bits_in [] = 0
bits_in (piece ∷ rest) = piece.bits + bits_in rest

-- each piece has so many bits
abbrev pub AreWithin : List Piece → Type 0
AreWithin [] = Unit {0}
AreWithin (piece ∷ rest) = (piece.bits ≤ 8 * length piece.octets.now) × AreWithin rest

-- they are those of one block, which is no longer than a block may be
abbrev pub AreOfBlock : List Piece → Type 0
AreOfBlock pieces = AreWithin pieces × (bits_in pieces ≤ most_bits)
