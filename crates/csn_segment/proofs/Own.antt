-- The answer to a segment is decided by its own transaction.
use Rattle.std.proofs.Common.{◌≡◌, ℕ, ◌==◌, cond, List, length, filter, option_and_then, refl, ap}
use Rattle.csn_segment.specs.declared.header.PayloadType.{PayloadType}
use Rattle.csn_segment.specs.declared.header.PayloadType.TheVariants.{Data, Control, SegmentedControl, Reserved}
use Rattle.csn_segment.specs.declared.joined.Joined.TheVariants.{Refused}
use Rattle.csn_segment.specs.declared.joined.SegmentWhy.TheVariants.{BadLength}
use Rattle.csn_segment.specs.Header.{block_octets, payload_type_of, segment_of, rti_of, body_of}
use Rattle.csn_segment.specs.Joining.{is_segment_of, body_of_first, waiting, answer_to_segment, answer_to_payload}
use Rattle.csn_segment.specs.Laws.{OwnTransactionDecides}
use Rattle.csn_segment.proofs.Lasts.{last-filter}

waits_own : (earlier : List (List ℕ)) (rti : ℕ) → waiting (filter (is_segment_of rti) earlier) rti ≡ waiting earlier rti
waits_own earlier rti =
    ap (option_and_then (λ block. body_of_first (segment_of block) (body_of block))) (last-filter (is_segment_of rti) earlier)

by_payload : (kind : PayloadType) (earlier : List (List ℕ)) (block : List ℕ)
    → answer_to_payload kind (filter (is_segment_of (rti_of block)) earlier) block ≡ answer_to_payload kind earlier block
by_payload Data earlier block = refl
by_payload Control earlier block = refl
by_payload Reserved earlier block = refl
by_payload SegmentedControl earlier block =
    ap (λ first. answer_to_segment (segment_of block) (rti_of block) first (body_of block)) (waits_own earlier (rti_of block))

pub own_transaction_decides : OwnTransactionDecides
own_transaction_decides earlier block =
    ap (λ answer. cond (length block == block_octets) answer (Refused BadLength)) (by_payload (payload_type_of block) earlier block)
