-- Blocks with a segment, and what they give.
use Rattle.std.specs.Prelude.{◌≡◌, ℕ, List, [], ◌∷◌, ◌++◌, replicate}
use Rattle.csn_segment.specs.declared.header.Segment.TheVariants.{Only, First, Second, NotFinal}
use Rattle.csn_segment.specs.declared.joined.Joined.TheVariants.{Waiting, Refused}
use Rattle.csn_segment.specs.declared.joined.SegmentWhy.TheVariants.{NoFirst}
use Rattle.csn_segment.specs.Header.{segment_of, rti_of, body_of}
use Rattle.csn_segment.specs.Joining.{answer_to, whole}

-- the payload type 10, an octet with RBSN, RTI, FS and AC, and a body of one octet again and again
abbrev block_with : ℕ → ℕ → List ℕ
block_with header octet = 0x80 ∷ header ∷ replicate 21 octet

-- a first segment of the radio transaction 3, the second one, and their message of 42 octets
abbrev first : List ℕ
first = block_with 0x0C 0xA1

abbrev second : List ℕ
second = block_with 0x8E 0xB1

abbrev message : List ℕ
message = replicate 21 0xA1 ++ replicate 21 0xB1

-- RBSN, RTI and FS stand where they do
abbrev pub HeadersAreRead : Type 0
HeadersAreRead =
    (segment_of first ≡ First) × (segment_of second ≡ Second) × (segment_of (block_with 0x0E 0xA1) ≡ Only)
    × (segment_of (block_with 0x8C 0xB1) ≡ NotFinal) × (rti_of first ≡ 3) × (rti_of second ≡ 3)

-- where AC is 1 the octet with PR, TFI and D is no part of the body
abbrev pub AddressesAreLeftOut : Type 0
AddressesAreLeftOut =
    (body_of (0x80 ∷ 0x0C ∷ 0x10 ∷ 0xB0 ∷ []) ≡ 0x10 ∷ 0xB0 ∷ []) × (body_of (0x80 ∷ 0x0D ∷ 0x42 ∷ 0x10 ∷ 0xB0 ∷ []) ≡ 0x10 ∷ 0xB0 ∷ [])

-- a first segment waits, and the second one ends its message
abbrev pub FirstThenSecond : Type 0
FirstThenSecond = (answer_to [] first ≡ Waiting 3) × (answer_to (first ∷ []) second ≡ whole message)

-- a second segment that comes before the first one is refused, and the first one still waits
abbrev pub SecondThenFirst : Type 0
SecondThenFirst = (answer_to [] second ≡ Refused NoFirst) × (answer_to (second ∷ []) first ≡ Waiting 3)

-- a second segment that comes again is refused
abbrev pub SecondTwice : Type 0
SecondTwice = answer_to (first ∷ second ∷ []) second ≡ Refused NoFirst

-- a first segment takes the place of one that waits
abbrev pub FirstReplaced : Type 0
FirstReplaced = answer_to (block_with 0x0C 0xA2 ∷ first ∷ []) second ≡ whole message

-- blocks of the transaction 4 stand between them
abbrev pub TransactionsBetween : Type 0
TransactionsBetween =
    (answer_to (block_with 0x10 0xA4 ∷ first ∷ block_with 0x92 0xB4 ∷ []) second ≡ whole message)
    × (answer_to (block_with 0x10 0xA4 ∷ []) second ≡ Refused NoFirst)

-- a second segment that is not final is put aside, and a block that is too short is no segment
abbrev pub PutAside : Type 0
PutAside = answer_to (first ∷ block_with 0x8C 0xB2 ∷ (0x80 ∷ 0x0E ∷ []) ∷ []) second ≡ whole message

-- a message in one block ends what waits
abbrev pub OneBlockBetween : Type 0
OneBlockBetween = answer_to (first ∷ block_with 0x0E 0xA2 ∷ []) second ≡ Refused NoFirst
