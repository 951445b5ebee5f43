use Rattle.std.proofs.Common.{◌≡◌, ℕ, ◌+◌, ◌-◌, ◌*◌, ◌/◌, ◌≤◌, List, ◌∷◌, ◌++◌, length, take, get_or, Some, arith, length-append, ap, sym, ◌∙◌}
use Rattle.std.proofs.lemmas.Grind.{common_steps}
use Rattle.std.proofs.lemmas.List.{length-take}
use Rattle.csn_bits.specs.Feed.{all_but_last}
use Rattle.csn_bits.specs.Line.{last_of, octets_of_digits}
use Rattle.csn_bits.proofs.Decoding.{pairs_taken}
use Rattle.csn_bits.proofs.Feeding.{holds_pairs, given_first_pairs, given_more_pairs}
use Rattle.csn_bits.proofs.Room.{put_behind, last_at, from_first}
use Rattle.csn_bits.proofs.feed.HexFeed.pairs.Goals as goal
use Rattle.csn_bits.proofs.feed.HexFeed.pairs.Goals.{in-Some, in-None}

pub returns : goal.returns
returns c =
    let count = c.decode_pairs-count.result in
    let decoded = c.decode_pairs-count.new.room in
    let got = c.decode_pairs-count.ensures in
    let (n, all, waits, octets, within, few) = pairs_taken c.args.bytes.now decoded count c.min.result got.digits got.octets got.within in
    let digits : List ℕ = take (2 * count) c.args.bytes.now in
    let (first, rest, put) = put_behind (length c.args.room.now - 1) c.args.room.now decoded (omega (arith, within)) in
    let last : last_of (octets_of_digits digits) ≡ Some (get_or (first ∷ (decoded ++ rest)) count 0) =
    ap last_of (sym octets) ∙ last_at decoded rest first count (omega arith) (omega (arith, within, got.room)) in
    let held = c.replace.ensures.after ∙ ap (λ (l : List ℕ). Some (get_or l count 0)) put in
    let bounded : c.args.self.now.seen + 2 * count ≤ 131072 = omega (arith, c.in_ok-left.ensures, c.min.ensures, few) in
    let half : 2 * count / 2 ≡ count = omega arith in
    let behind : (x : ℕ) → take count (x ∷ (decoded ++ rest)) ≡ x ∷ all_but_last (octets_of_digits digits) =
    λ x. from_first decoded rest x count (omega arith) (omega (arith, within, got.room)) ∙ ap (λ (l : List ℕ). x ∷ all_but_last l) octets in
    record {
      fed = λ line fed. record {
        seen = omega (arith, fed.seen, length-append line digits, n);
        keeps = rw held (holds_pairs line digits c.args.self.now.stage c.args.self.now.waiting c.args.self.now.last
            fed.keeps c.in-Digits-None.is-0 c.in-Digits-None.is-1 all waits
            (get_or (first ∷ (decoded ++ rest)) count 0) last);
      };
      given = λ line fed. elim c.match-replace.branch [
        | in-Some w ↦ rw (w.room-is, w.from-is, half, put, behind w.in-Some.octet)
            (given_more_pairs line digits _ _ _ fed.keeps c.in-Digits-None.is-0 c.in-Digits-None.is-1 all waits
            w.in-Some.octet (sym w.in-Some.ensures.value) (omega (arith, n)) (omega (arith, fed.seen, n, bounded)))
        | in-None w ↦ rw (w.room-is, w.from-is, half, put, behind first)
            (given_first_pairs line digits _ _ _ fed.keeps c.in-Digits-None.is-0 c.in-Digits-None.is-1 all waits
            (sym w.in-None.ensures.value) (omega (arith, n)) (omega (arith, fed.seen, n, bounded)))
      ];
      seen = omega arith;
      some = omega (arith, c.if-count-eq0.false);
      within = within;
      from = grind (arith, common_steps);
      none = tt;
      room = grind (arith, common_steps);
    }

pub slice_bounds-decode_pairs-end-2 : goal.slice_bounds-decode_pairs-end-2
slice_bounds-decode_pairs-end-2 c = omega (arith, c.requires)

pub decode_pairs-count-requires : goal.decode_pairs-count-requires
decode_pairs-count-requires c = omega (arith, c.requires, c.min.ensures, length-take c.min.result c.args.bytes.now)
