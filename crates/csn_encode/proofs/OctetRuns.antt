-- Octets whose bits are added a few octets at a time.
use Rattle.std.proofs.Common.{◌≡◌, ℕ, ◌+◌, ◌-◌, ◌*◌, ◌/◌, ◌^◌, ◌<◌, ◌≤◌, List, ◌++◌, length, take, drop, take_all}
use Rattle.std.proofs.Common.{append_assoc, sym, ◌∙◌, ap, arith, take-append-drop}
use Rattle.std.proofs.Math.Seq.{take-append-add}
use Rattle.std.proofs.lemmas.List.{length-take-le}
use Rattle.csn_bits.specs.Octets.{IsBits, bits_of_octets}
use Rattle.csn_bits.specs.Numbers.{number_of, low_bits}
use Rattle.csn_bits.proofs.NumberFacts.{low_bits-number_of}
use Rattle.csn_bits.proofs.OctetNumbers.{number_of-first}
use Rattle.csn_bits.proofs.Packing.{IsBits-take, bits_of_octets-append, length-bits_of_octets}

-- the first bits, as a number of so many bits
pub first_number : (octets : List ℕ) (count unused : ℕ) → IsBits (bits_of_octets octets) → count ≤ 8 * length octets → unused ≡ 8 * length octets - count
    → low_bits count (number_of (bits_of_octets octets) / 2 ^ unused) ≡ take count (bits_of_octets octets)
first_number octets count unused are within is =
    let bits = bits_of_octets octets in
    let long = length-bits_of_octets octets in
    let less : count ≤ length bits = omega (arith, long, within) in
    let behind : unused ≡ length bits - count = omega (arith, long, is) in
    let size : length (take count bits) ≡ count = length-take-le count bits less in
    ap (λ k. low_bits count (number_of bits / 2 ^ k)) behind ∙ ap (λ n. low_bits count n) (number_of-first bits count are less)
    ∙ ap (λ k. low_bits k (number_of (take count bits))) (sym size) ∙ low_bits-number_of (take count bits) (IsBits-take count bits are)

-- seven octets more
pub run_more : (before old leaf octets front back added : List ℕ) (left : ℕ)
    → before ++ take left (bits_of_octets octets) ≡ old ++ leaf → front ≡ take 7 octets → back ≡ drop 7 octets
    → 7 ≤ length octets → 56 < left
    → added ≡ before ++ take 56 (bits_of_octets front) → added ++ take (left - 56) (bits_of_octets back) ≡ old ++ leaf
run_more before old leaf octets front back added left so_far first second many more is =
    let size : length front ≡ 7 = ap length first ∙ length-take-le 7 octets many in
    let long : length (bits_of_octets front) ≡ 56 = omega (arith, length-bits_of_octets front, size) in
    let all : take 56 (bits_of_octets front) ≡ bits_of_octets front = take_all 56 (bits_of_octets front) (omega (arith, long)) in
    let whole : bits_of_octets octets ≡ bits_of_octets front ++ bits_of_octets back =
    ap (λ l. bits_of_octets l) (sym (take-append-drop 7 octets) ∙ ap (λ l. l ++ drop 7 octets) (sym first)
    ∙ ap (λ l. front ++ l) (sym second)) ∙ bits_of_octets-append front back in
    let cut : left ≡ length (bits_of_octets front) + (left - 56) = omega (arith, long, more) in
    ap (λ l. l ++ take (left - 56) (bits_of_octets back)) (is ∙ ap (λ l. before ++ l) all)
    ∙ append_assoc before (bits_of_octets front) (take (left - 56) (bits_of_octets back))
    ∙ ap (λ l. before ++ l) (sym (take-append-add (bits_of_octets front) (bits_of_octets back) (left - 56))
    ∙ ap (λ n. take n (bits_of_octets front ++ bits_of_octets back)) (sym cut)
    ∙ ap (λ l. take left l) (sym whole))
    ∙ so_far
