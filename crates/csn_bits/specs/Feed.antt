-- A block line that is read byte by byte.
use Rattle.std.specs.Prelude.{◌≡◌, ℕ, ◌-◌, ◌≤◌, true, false, ◌==◌, ◌&&◌, if◌then◌else◌, List, [], ◌∷◌, ◌++◌, length, take, codes, Option, Some, None}
use Rattle.hex.specs.Hex.{is_hex_digit}
use Rattle.csn_bits.specs.Octets.{bits_of_octet, bits_of_octets, most_octets, octets_of}
use Rattle.csn_bits.specs.Line.{BlockLine, bits_of_tail, fault_of, is_dot, last_of, octets_of_digits, value_of}
use Rattle.csn_bits.specs.declared.fault.LineWhy.{LineWhy}
use Rattle.csn_bits.specs.declared.feed.HexFeed.{HexFeed}
use Rattle.csn_bits.specs.declared.feed.Stage.{Stage}
use Rattle.csn_bits.specs.declared.feed.Stage.TheVariants as stage
use Rattle.csn_bits.specs.declared.feed.HexStep.{HexStep}
use Rattle.csn_bits.specs.declared.feed.HexStep.TheVariants.{Nothing, Octet}
use Rattle.csn_bits.specs.declared.feed.HexEnd.{HexEnd}
use Rattle.csn_bits.specs.declared.feed.HexEnd.TheVariants.{Empty, Last, Fault}

-- ---- what a feed gives

-- the digits that a line begins with
abbrev pub leading_digits : List ℕ → List ℕ
leading_digits [] = []
leading_digits (byte ∷ rest) = if is_hex_digit byte then byte ∷ leading_digits rest else []

-- all but the last
abbrev pub all_but_last : List ℕ → List ℕ
all_but_last xs = take (length xs - 1) xs

-- the octets that a feed of this line has given: those of its whole pairs of digits but the last
-- pair, which the end of the line decides about, and no more than a block has
abbrev pub octets_given : List ℕ → List ℕ
octets_given line = take most_octets (all_but_last (octets_of_digits (leading_digits line)))

-- the octets of a step
abbrev pub octets_of_step : HexStep → List ℕ
octets_of_step Nothing = []
octets_of_step (Octet octet) = octet ∷ []

-- a step gives what one more byte of the line adds
abbrev pub Gives : List ℕ → ℕ → HexStep → Type 0
Gives line byte step = octets_given (line ++ byte ∷ []) ≡ octets_given line ++ octets_of_step step

-- the fault that the end of a line tells
abbrev pub fault_of_end : HexEnd → Option LineWhy
fault_of_end Empty = None
fault_of_end (Last octet bits) = None
fault_of_end (Fault why) = Some why

-- a block line whose last octet has so many bits of the block and then zeros, after the octets given
pub record EndsWith (line : List ℕ) (octet bits : ℕ) : Type 0 where
  pub some : 1 ≤ bits
  pub few : bits ≤ 8
  pub filled : octets_of (take bits (bits_of_octet octet)) ≡ octet ∷ []
  pub spelled : BlockLine line (bits_of_octets (octets_given line) ++ take bits (bits_of_octet octet))

-- how a line ends: as the empty block, as a block line with a last octet, or with its first fault
abbrev pub EndsLine : List ℕ → HexEnd → Type 0
EndsLine line Empty = line ≡ codes "."
EndsLine line (Last octet bits) = EndsWith line octet bits
EndsLine line (Fault why) = fault_of line ≡ Some why

-- ---- what a feed keeps of a line

-- only digits
abbrev pub AreDigits : List ℕ → Type 0
AreDigits [] = Unit {0}
AreDigits (byte ∷ rest) = (is_hex_digit byte ≡ true) × AreDigits rest

-- the value of the last of an odd number of digits
abbrev pub waiting_value : List ℕ → Option ℕ
waiting_value [] = None
waiting_value (digit ∷ []) = Some (value_of digit)
waiting_value (high ∷ low ∷ rest) = waiting_value rest

-- a tail as it stands in the line
abbrev pub tail_text : Option (List ℕ) → List ℕ
tail_text None = []
tail_text (Some tail) = 47 ∷ tail

-- the stage after so many digits and a tail
abbrev pub stage_of_tail : ℕ → Option (List ℕ) → Stage
stage_of_tail digits None = stage.Digits
stage_of_tail digits (Some []) = stage.Slash digits
stage_of_tail digits (Some (byte ∷ [])) = stage.Tail digits byte
stage_of_tail digits (Some tail) = stage.LongTail

-- a stage, the digit that waits for its partner and the last octet are those of a line
pub data Holds (at : Stage) (waiting last : Option ℕ) (line : List ℕ) : Type 0 where
  dot : at ≡ stage.Dot → line ≡ codes "." → Holds at waiting last line
  bad : (front : List ℕ) (byte : ℕ) (back : List ℕ) → line ≡ front ++ byte ∷ back → AreDigits front
      → is_hex_digit byte ≡ false → (byte == 47) ≡ false → is_dot line ≡ false → at ≡ stage.BadDigit (length front)
      → Holds at waiting last line
  read : (digits : List ℕ) (tail : Option (List ℕ)) → line ≡ digits ++ tail_text tail → AreDigits digits
      → waiting ≡ waiting_value digits → last ≡ last_of (octets_of_digits digits)
      → at ≡ stage_of_tail (length digits) tail → Holds at waiting last line

-- the feed was given the bytes of this line, and nothing else
pub record Fed (feed : HexFeed) (line : List ℕ) : Type 0 where
  pub seen : feed.seen ≡ length line
  pub keeps : Holds feed.stage feed.waiting feed.last line

-- the feed keeps what it has to of this line
abbrev pub Keeps : HexFeed → List ℕ → Type 0
Keeps feed line = Holds feed.stage feed.waiting feed.last line

-- how many bytes a feed was given
abbrev pub seen_of : HexFeed → ℕ
seen_of feed = feed.seen

-- the stage after one more byte, with so many bytes before it, where this is no digit before a `/`
abbrev pub stage_after : Stage → ℕ → ℕ → Stage
stage_after stage.Digits byte column =
    if byte == 47 then stage.Slash column
    else if byte == 46 && column == 0 then stage.Dot
    else stage.BadDigit column
stage_after stage.Dot byte column = stage.BadDigit 0
stage_after (stage.BadDigit place) byte column = stage.BadDigit place
stage_after (stage.Slash digits) byte column = stage.Tail digits byte
stage_after (stage.Tail digits first) byte column = stage.LongTail
stage_after stage.LongTail byte column = stage.LongTail

-- how a line ends of which so much is kept, with so many digits and bits counted by its tail
abbrev pub EndsDigits : Option ℕ → Option ℕ → ℕ → Option ℕ → HexEnd → Type 0
EndsDigits waiting last count used end =
    (digits : List ℕ) (tail : Option (List ℕ)) → AreDigits digits → waiting ≡ waiting_value digits
    → last ≡ last_of (octets_of_digits digits) → count ≡ length digits → used ≡ bits_of_tail tail
    → EndsLine (digits ++ tail_text tail) end × (fault_of (digits ++ tail_text tail) ≡ fault_of_end end)
