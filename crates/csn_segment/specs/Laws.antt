-- What holds of the answers, whoever gives them.
use Rattle.std.specs.Prelude.{◌≡◌, ◌≤◌, ℕ, List, [], ◌∷◌, ◌++◌, length, filter}
use Rattle.csn_segment.specs.declared.header.PayloadType.TheVariants.{SegmentedControl}
use Rattle.csn_segment.specs.declared.header.Segment.TheVariants.{Second}
use Rattle.csn_segment.specs.declared.joined.Joined.{Joined}
use Rattle.csn_segment.specs.declared.joined.Joined.TheVariants.{Whole, Waiting, Refused}
use Rattle.csn_segment.specs.declared.joined.SegmentWhy.TheVariants.{NoFirst}
use Rattle.csn_segment.specs.Header.{block_octets, payload_type_of, segment_of, rti_of}
use Rattle.csn_segment.specs.Joining.{is_segment_of, answer_to}

-- the answer to a block is decided by the segments of its own transaction among the blocks before it
abbrev pub OwnTransactionDecides : Type 0
OwnTransactionDecides =
    (earlier : List (List ℕ)) (block : List ℕ) → answer_to (filter (is_segment_of (rti_of block)) earlier) block ≡ answer_to earlier block

-- a second segment that comes again is refused
abbrev pub SecondComesOnce : Type 0
SecondComesOnce =
    (earlier : List (List ℕ)) (block : List ℕ) → length block ≡ block_octets → payload_type_of block ≡ SegmentedControl
    → segment_of block ≡ Second → answer_to (earlier ++ block ∷ []) block ≡ Refused NoFirst

-- where it is a message it has at most 42 octets: two bodies of 21
abbrev pub IsShort : Joined → Type 0
IsShort (Whole message) = length message.items ≤ 42
IsShort (Waiting rti) = Unit {0}
IsShort (Refused why) = Unit {0}

-- messages are short
abbrev pub MessagesAreShort : Type 0
MessagesAreShort = (earlier : List (List ℕ)) (block : List ℕ) → IsShort (answer_to earlier block)
