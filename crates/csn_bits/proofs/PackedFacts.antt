-- Bits in whole octets and the last bits of a number.
use Rattle.std.proofs.Common.{◌≡◌, ℕ, zero, suc, ◌+◌, ◌-◌, ◌*◌, ◌/◌, ◌%◌, ◌^◌, ◌<◌, ◌≤◌, List, [], ◌∷◌, ◌++◌, length}
use Rattle.std.proofs.Common.{take, drop, get_or, slice_index, sym, ap, ◌∙◌, arith, length-append, append_assoc}
use Rattle.std.proofs.Common.{append-nil, take_all}
use Rattle.std.specs.Int.Bits.{bit_or}
use Rattle.std.proofs.Math.Seq.{take-append-add}
use Rattle.std.proofs.Math.ListN.{get_or-append}
use Rattle.std.proofs.lemmas.Nat.{pow_pos}
use Rattle.std.proofs.lemmas.List.{take_at, take_more, take-append-le, get_or_read, get_or-append-add}
use Rattle.csn_bits.specs.Octets.{IsBits, bits_of_octet, bits_of_octets, octets_of}
use Rattle.csn_bits.specs.Numbers.{low_bits}
use Rattle.csn_bits.proofs.NumberFacts.{length-low_bits, low_bits-mod, low_bits-masked, masked_small, low_bits-first}
use Rattle.csn_bits.proofs.NumberFacts.{low_bits-join, low_bits-shifted, low_bits-octet, shl_parts}
use Rattle.csn_bits.proofs.Packing.{octets_of-small, length-bits_of_octets, bits_of_octets-append, slice_index-bits_of_octets}

pub packed_length : (octets : List ℕ) (held last : ℕ) → length (bits_of_octets octets ++ low_bits held last) ≡ 8 * length octets + held
packed_length octets held last =
    omega (arith, length-append (bits_of_octets octets) (low_bits held last), length-bits_of_octets octets, length-low_bits held last)

-- ---- the bit at a place

bit_of_number : (n v k : ℕ) → k < n → slice_index (low_bits n v) k ≡ v / 2 ^ (n - 1 - k) % 2
bit_of_number zero v k less = absurd (omega arith)
bit_of_number (suc n) v zero less = (let e : n ≡ suc n - 1 - 0 = omega arith in ap (λ p. v / 2 ^ p % 2) e)
bit_of_number (suc n) v (suc k) less =
    let e : n - 1 - k ≡ suc n - 1 - suc k = omega arith in
    bit_of_number n v k (omega arith) ∙ ap (λ p. v / 2 ^ p % 2) e

pub bit_of_whole : (octets back : List ℕ) (at octet : ℕ) → at / 8 < length octets → octet < 256 → octet ≡ get_or octets (at / 8) octet
    → octet / 2 ^ (7 - at % 8) % 2 ≡ slice_index (bits_of_octets octets ++ back) at
bit_of_whole octets back at octet low small read =
    let is : octet ≡ get_or octets (at / 8) 0 = get_or_read octets (at / 8) octet low read 0 in
    let byte : get_or octets (at / 8) 0 < 256 = omega (arith, is, small) in
    ap (λ o. o / 2 ^ (7 - at % 8) % 2) is
    ∙ sym (slice_index-bits_of_octets octets at (omega arith) byte)
    ∙ sym (get_or-append (bits_of_octets octets) back 0 at (omega (arith, length-bits_of_octets octets)))

pub bit_of_last : (octets : List ℕ) (held last at : ℕ) → at < 8 * length octets + held → length octets ≤ at / 8 → held < 8
    → last / 2 ^ (held - at % 8 - 1) % 2 ≡ slice_index (bits_of_octets octets ++ low_bits held last) at
bit_of_last octets held last at within past part =
    let place : length (bits_of_octets octets) + at % 8 ≡ at = omega (arith, length-bits_of_octets octets) in
    let power : held - at % 8 - 1 ≡ held - 1 - at % 8 = omega arith in
    ap (λ p. last / 2 ^ p % 2) power
    ∙ sym (bit_of_number held last (at % 8) (omega arith))
    ∙ sym (get_or-append-add (bits_of_octets octets) (low_bits held last) (at % 8) 0)
    ∙ ap (λ k. slice_index (bits_of_octets octets ++ low_bits held last) k) place

-- ---- bits of a number, behind those that are held

pub added : (octets : List ℕ) (held last count number : ℕ) → held < 8 → count ≤ 56
    → bits_of_octets octets ++ low_bits (held + count) (bit_or (last * 2 ^ count % 2 ^ 64) (number % (1 * 2 ^ count % 2 ^ 64)))
    ≡ (bits_of_octets octets ++ low_bits held last) ++ low_bits count number
added octets held last count number part few =
    let more : ℕ = number % (1 * 2 ^ count % 2 ^ 64) in
    ap (λ l. bits_of_octets octets ++ l)
    (low_bits-shifted held count last more (omega arith) (masked_small number count (omega arith))
    ∙ ap (λ l. low_bits held last ++ l) (low_bits-masked count number (omega arith)))
    ∙ sym (append_assoc (bits_of_octets octets) (low_bits held last) (low_bits count number))

octet_is : (v : ℕ) → bits_of_octet (v % 256) ≡ low_bits 8 v
octet_is v = sym (low_bits-octet (v % 256) (omega arith)) ∙ low_bits-mod 8 0 v

-- the first eight of the held bits make an octet
pub moved_octet : (octets : List ℕ) (left bits : ℕ) → 8 ≤ left
    → bits_of_octets (octets ++ bits / 2 ^ (left - 8) % 256 ∷ []) ++ low_bits (left - 8) bits ≡ bits_of_octets octets ++ low_bits left bits
moved_octet octets left bits some =
    let octet : ℕ = bits / 2 ^ (left - 8) in
    let one : bits_of_octets (octet % 256 ∷ []) ≡ low_bits 8 octet = append-nil (bits_of_octet (octet % 256)) ∙ octet_is octet in
    ap (λ l. l ++ low_bits (left - 8) bits) (bits_of_octets-append octets (octet % 256 ∷ []) ∙ ap (λ l. bits_of_octets octets ++ l) one)
    ∙ append_assoc (bits_of_octets octets) (low_bits 8 octet) (low_bits (left - 8) bits)
    ∙ ap (λ l. bits_of_octets octets ++ l) (sym (low_bits-first left bits 8 some))

-- fewer than eight bits are left
pub few_left : (left bits : ℕ) → left < 8 → low_bits left (bits % 256) ≡ low_bits left bits
few_left left bits few =
    let j : ℕ = 8 - left in
    let all : j + left ≡ 8 = omega arith in
    let eight : 2 ^ (j + left) ≡ 256 = ap (λ k. 2 ^ k) all in
    sym (ap (λ k. low_bits left (bits % k)) eight) ∙ low_bits-mod left j bits

-- ---- the bits of a leaf

pub small_octet : (octets leaf : List ℕ) (k : ℕ) → octets ≡ octets_of leaf → IsBits leaf → slice_index octets k < 256
small_octet octets leaf k is bits = omega (arith, octets_of-small leaf k bits, ap (λ l. slice_index l k) is)

-- one octet more
pub octet_next : (octets : List ℕ) (at octet : ℕ) → at < length octets → octet < 256 → octet ≡ slice_index octets at
    → bits_of_octets (take at octets) ++ low_bits 8 octet ≡ bits_of_octets (take (at + 1) octets)
octet_next octets at octet low small is =
    ap (λ l. bits_of_octets (take at octets) ++ l) (low_bits-octet octet small ∙ sym (append-nil (bits_of_octet octet)))
    ∙ sym (bits_of_octets-append (take at octets) (octet ∷ []))
    ∙ ap (λ l. bits_of_octets l) (sym (take_more octets at 0 low ∙ ap (λ o. take at octets ++ o ∷ []) (sym is)))

take_octets : (octets : List ℕ) (w r : ℕ) → take (8 * w + r) (bits_of_octets octets) ≡ bits_of_octets (take w octets)
    ++ take r (bits_of_octets (drop w octets))
take_octets octets zero r = (let e : 8 * 0 + r ≡ r = omega arith in ap (λ n. take n (bits_of_octets octets)) e)
take_octets [] (suc w) r = take_all (8 * suc w + r) [] (omega arith) ∙ sym (take_all r [] (omega arith))
take_octets (o ∷ rest) (suc w) r =
    let e : 8 * suc w + r ≡ length (bits_of_octet o) + (8 * w + r) = omega arith in
    ap (λ n. take n (bits_of_octet o ++ bits_of_octets rest)) e
    ∙ take-append-add (bits_of_octet o) (bits_of_octets rest) (8 * w + r)
    ∙ ap (λ l. bits_of_octet o ++ l) (take_octets rest w r)
    ∙ sym (append_assoc (bits_of_octet o) (bits_of_octets (take w rest)) (take r (bits_of_octets (drop w rest))))

first_bits : (octets : List ℕ) (w r o : ℕ) → get_or octets w 0 ≡ o → w < length octets → r ≤ 8
    → take r (bits_of_octets (drop w octets)) ≡ take r (bits_of_octet o)
first_bits [] w r o is low few = absurd (omega arith)
first_bits (x ∷ rest) zero r o is low few = take-append-le r (bits_of_octet x) (bits_of_octets rest) few ∙ ap (λ y. take r (bits_of_octet y)) is
first_bits (x ∷ rest) (suc w) r o is low few = first_bits rest w r o is (omega arith) few

first_of_octet : (r o : ℕ) → r ≤ 8 → o < 256 → take r (bits_of_octet o) ≡ low_bits r (o / 2 ^ (8 - r))
first_of_octet r o few small =
    ap (λ l. take r l) (sym (low_bits-octet o small) ∙ low_bits-first 8 o r few)
    ∙ take_at (low_bits r (o / 2 ^ (8 - r))) (low_bits (8 - r) o) r (length-low_bits r (o / 2 ^ (8 - r)))

-- the bits fill octets
pub whole_leaf : (octets leaf : List ℕ) (len : ℕ) → take len (bits_of_octets octets) ≡ leaf → len % 8 ≡ 0 → bits_of_octets (take (len / 8) octets) ≡ leaf
whole_leaf octets leaf len is whole =
    let e : 8 * (len / 8) + 0 ≡ len = omega arith in
    sym (append-nil (bits_of_octets (take (len / 8) octets))) ∙ sym (take_octets octets (len / 8) 0) ∙ ap (λ n. take n (bits_of_octets octets)) e ∙ is

-- they end within an octet
pub part_leaf : (octets leaf : List ℕ) (len octet : ℕ) → take len (bits_of_octets octets) ≡ leaf
    → len / 8 < length octets → octet < 256 → octet ≡ slice_index octets (len / 8)
    → bits_of_octets (take (len / 8) octets) ++ low_bits (len % 8) (octet / 2 ^ (8 - len % 8)) ≡ leaf
part_leaf octets leaf len octet is low small here =
    let e : 8 * (len / 8) + len % 8 ≡ len = omega arith in
    ap (λ l. bits_of_octets (take (len / 8) octets) ++ l) (sym (first_of_octet (len % 8) octet (omega arith) small)
    ∙ sym (first_bits octets (len / 8) (len % 8) octet (sym here) low (omega arith)))
    ∙ sym (take_octets octets (len / 8) (len % 8)) ∙ ap (λ n. take n (bits_of_octets octets)) e ∙ is

-- ---- the bits handed over

-- the last bits begin an octet
last_octet : (held last : ℕ) → held < 8 → low_bits 8 (last * 2 ^ (8 - held) % 2 ^ 64) ≡ low_bits held last ++ low_bits (8 - held) 0
last_octet held last part =
    let n : ℕ = 8 - held in
    let j : ℕ = 64 - n in
    let a : ℕ = last % 2 ^ j in
    let cut : last * 2 ^ n % 2 ^ 64 ≡ a * 2 ^ n + 0 = shl_parts last n j (omega arith) ∙ omega arith in
    let wide : j ≡ (j - held) + held = omega arith in
    let kept : low_bits held a ≡ low_bits held last = ap (λ k. low_bits held (last % 2 ^ k)) wide ∙ low_bits-mod held (j - held) last in
    let eight : 8 ≡ held + n = omega arith in
    ap (λ k. low_bits 8 k) cut ∙ ap (λ k. low_bits k (a * 2 ^ n + 0)) eight ∙ low_bits-join held n a 0 (pow_pos n)
    ∙ ap (λ l. l ++ low_bits n 0) kept

-- the octets with one more, which the last bits begin, have all bits
pub handed_over : (octets : List ℕ) (held last : ℕ) → held < 8
    → take (8 * length octets + held) (bits_of_octets (octets ++ last * 2 ^ (8 - held) % 2 ^ 64 % 256 ∷ [])) ≡ bits_of_octets octets ++ low_bits held last
handed_over octets held last part =
    let x : ℕ = last * 2 ^ (8 - held) % 2 ^ 64 in
    let whole : List ℕ = bits_of_octets octets in
    let few : List ℕ = low_bits held last in
    let others : List ℕ = low_bits (8 - held) 0 in
    let one : bits_of_octets (x % 256 ∷ []) ≡ few ++ others = append-nil (bits_of_octet (x % 256)) ∙ octet_is x ∙ last_octet held last part in
    let all : bits_of_octets (octets ++ x % 256 ∷ []) ≡ whole ++ (few ++ others) = bits_of_octets-append octets (x % 256 ∷ []) ∙ ap (λ l. whole ++ l) one in
    let size : 8 * length octets + held ≡ length whole + held = omega (arith, length-bits_of_octets octets) in
    ap (λ l. take (8 * length octets + held) l) all ∙ ap (λ n. take n (whole ++ (few ++ others))) size ∙ take-append-add whole (few ++ others) held
    ∙ ap (λ l. whole ++ l) (take_at few others held (length-low_bits held last))
