-- The header of a downlink block, as far as it says what the block carries (3GPP TS 44.060, clause 10.3, with the
-- fields of clause 10.4).
use Rattle.std.specs.Prelude.{ℕ, ◌/◌, ◌%◌, Bool, true, false, ◌==◌, if◌then◌else◌, List, slice_index, drop}
use Rattle.csn_segment.specs.declared.header.PayloadType.{PayloadType}
use Rattle.csn_segment.specs.declared.header.PayloadType.TheVariants.{Data, Control, SegmentedControl, Reserved}
use Rattle.csn_segment.specs.declared.header.Segment.{Segment}
use Rattle.csn_segment.specs.declared.header.Segment.TheVariants.{Only, First, Second, NotFinal}

-- how many octets a control block has: the MAC header and 22 octets
abbrev pub block_octets : ℕ
block_octets = 23

-- how many values a radio transaction identifier has
abbrev pub transactions : ℕ
transactions = 32

-- ---- the MAC header: payload type (2 bits), relative reserved block period (RRBP, 2), supplementary/polling (S/P, 1),
-- uplink state flag (USF, 3)

-- the payload types in the order of their numbers
abbrev pub payload_type : ℕ → PayloadType
payload_type n =
    if n == 0 then Data
    else if n == 1 then Control
    else if n == 2 then SegmentedControl
    else Reserved

abbrev pub payload_type_of : List ℕ → PayloadType
payload_type_of block = payload_type (slice_index block 0 / 64)

-- ---- the first optional octet of the control header: reduced block sequence number (RBSN, 1 bit), radio transaction
-- identifier (RTI, 5), final segment (FS, 1), address control (AC, 1)

abbrev pub is_second : List ℕ → Bool
is_second block = slice_index block 1 / 128 == 1

abbrev pub rti_of : List ℕ → ℕ
rti_of block = slice_index block 1 / 4 % transactions

abbrev pub is_final : List ℕ → Bool
is_final block = slice_index block 1 / 2 % 2 == 1

abbrev pub has_address : List ℕ → Bool
has_address block = slice_index block 1 % 2 == 1

-- which part of its message a block carries: RBSN is 0 in the first segment and 1 in the second, and FS marks the final
-- one
abbrev pub segment : Bool → Bool → Segment
segment false true = Only
segment false false = First
segment true true = Second
segment true false = NotFinal

abbrev pub segment_of : List ℕ → Segment
segment_of block = segment (is_second block) (is_final block)

-- ---- the body: what stands behind the header. Where AC is 1 a second optional octet is part of that: power reduction
-- (PR, 2 bits), temporary flow identity (TFI, 5), direction (D, 1)

abbrev pub header_octets : Bool → ℕ
header_octets address = if address then 3 else 2

abbrev pub body_of : List ℕ → List ℕ
body_of block = drop (header_octets (has_address block)) block
