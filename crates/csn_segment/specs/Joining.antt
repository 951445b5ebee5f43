-- What the blocks of one downlink give: control messages in one block, or in two (3GPP TS 44.060, clauses 10.3 and 10.4).
use Rattle.std.specs.Prelude.{◌≡◌, ℕ, ◌<◌, Bool, true, false, ◌==◌, ◌&&◌, if◌then◌else◌, List, ◌++◌, length}
use Rattle.std.specs.Prelude.{slice_get, drop, reverse, find, Option, Some, None, option_and_then}
use Rattle.csn_segment.specs.declared.header.PayloadType.{PayloadType}
use Rattle.csn_segment.specs.declared.header.PayloadType.TheVariants.{Data, Control, SegmentedControl, Reserved}
use Rattle.csn_segment.specs.declared.header.Segment.{Segment}
use Rattle.csn_segment.specs.declared.header.Segment.TheVariants.{Only, First, Second, NotFinal}
use Rattle.csn_segment.specs.declared.joined.Joined.{Joined}
use Rattle.csn_segment.specs.declared.joined.Joined.TheVariants.{Whole, Waiting, Refused}
use Rattle.csn_segment.specs.declared.joined.SegmentWhy.TheVariants as why
use Rattle.csn_segment.specs.Header.{block_octets, transactions, payload_type_of, segment_of, rti_of, body_of}

-- ---- what waits

-- a block of this payload type says which segment of a message it carries
abbrev pub carries_segment : PayloadType → Bool
carries_segment Data = false
carries_segment Control = false
carries_segment SegmentedControl = true
carries_segment Reserved = false

-- a second segment that is not the final one is put aside
abbrev pub counts : Segment → Bool
counts Only = true
counts First = true
counts Second = true
counts NotFinal = false

-- the block is a segment of this radio transaction, and is not put aside
abbrev pub is_segment_of : ℕ → List ℕ → Bool
is_segment_of rti block =
    (length block == block_octets) && carries_segment (payload_type_of block) && (rti_of block == rti) && counts (segment_of block)

-- the last of some blocks that is such a segment
abbrev pub last_segment : List (List ℕ) → ℕ → Option (List ℕ)
last_segment blocks rti = find (is_segment_of rti) (reverse blocks)

-- a body, where it is that of a first segment
abbrev pub body_of_first : Segment → List ℕ → Option (List ℕ)
body_of_first Only body = None
body_of_first First body = Some body
body_of_first Second body = None
body_of_first NotFinal body = None

-- the body that waits in a transaction behind some blocks: that of the last segment, if this is a first one
abbrev pub waiting : List (List ℕ) → ℕ → Option (List ℕ)
waiting blocks rti =
    option_and_then (λ block. body_of_first (segment_of block) (body_of block)) (last_segment blocks rti)

-- ---- the answer to a block

abbrev pub whole : List ℕ → Joined
whole octets = Whole (record { items = octets })

-- to a segment of a transaction with this body, where this one waits, if one does
abbrev pub answer_to_segment : Segment → ℕ → Option (List ℕ) → List ℕ → Joined
answer_to_segment Only rti first body = whole body
answer_to_segment First rti first body = Waiting rti
answer_to_segment NotFinal rti first body = Refused why.NotFinal
answer_to_segment Second rti (Some first) body = whole (first ++ body)
answer_to_segment Second rti None body = Refused why.NoFirst

-- to a block of this payload type, behind the blocks before it
abbrev pub answer_to_payload : PayloadType → List (List ℕ) → List ℕ → Joined
answer_to_payload Data earlier block = Refused why.NotControl
answer_to_payload Reserved earlier block = Refused why.Reserved
answer_to_payload Control earlier block = whole (drop 1 block)
answer_to_payload SegmentedControl earlier block =
    answer_to_segment (segment_of block) (rti_of block) (waiting earlier (rti_of block)) (body_of block)

-- to a block behind the blocks before it
abbrev pub answer_to : List (List ℕ) → List ℕ → Joined
answer_to earlier block =
    if length block == block_octets then answer_to_payload (payload_type_of block) earlier block
    else Refused why.BadLength

-- ---- what a joiner stands for

-- the bodies that it keeps, by RTI, are those that wait behind these blocks
pub record JoinsFor (bodies : List (Option (List ℕ))) (blocks : List (List ℕ)) : Type 0 where
  pub waits : (rti : ℕ) → rti < transactions → slice_get bodies rti ≡ Some (waiting blocks rti)
