-- The number of bits that stand in octets.
use Rattle.std.proofs.Common.{◌≡◌, ℕ, zero, suc, ◌+◌, ◌-◌, ◌*◌, ◌/◌, ◌%◌, ◌^◌, ◌<◌, ◌≤◌, List, [], ◌∷◌, length, take}
use Rattle.std.proofs.Common.{drop, get_or, sym, ap, ◌∙◌, arith, length-drop, take-append-drop}
use Rattle.std.proofs.Math.Pow.{pow_mono}
use Rattle.std.proofs.Math.Seq.{take-suc}
use Rattle.std.proofs.lemmas.List.{length-take-le}
use Rattle.std.proofs.lemmas.Nat.{div-mul-add}
use Rattle.csn_bits.specs.Octets.{IsBits, bits_of_octets}
use Rattle.csn_bits.specs.Numbers.{number_of}
use Rattle.csn_bits.proofs.NumberFacts.{number_of-append, number_of-lt, number_of-octet}
use Rattle.csn_bits.proofs.Packing.{AreOctets, IsBits-bits_of_octets, IsBits-drop, bits_of_octets-append, length-bits_of_octets, octet_of-bits_of_octet}

octet_number : (o : ℕ) → number_of (bits_of_octets (o ∷ [])) ≡ o
octet_number o =
    number_of-octet (o / 128) (o / 64 % 2) (o / 32 % 2) (o / 16 % 2) (o / 8 % 2) (o / 4 % 2) (o / 2 % 2) (o % 2) ∙ octet_of-bits_of_octet o

AreOctets-take : (n : ℕ) (octets : List ℕ) → AreOctets octets → (k : ℕ) → get_or (take n octets) k 0 < 256
AreOctets-take zero octets small k = omega arith
AreOctets-take (suc n) [] small k = omega arith
AreOctets-take (suc n) (o ∷ rest) small zero = small 0
AreOctets-take (suc n) (o ∷ rest) small (suc k) = AreOctets-take n rest (λ j. small (suc j)) k

-- one more of the first octets
pub number_of-next_octet : (octets : List ℕ) (at : ℕ) → at < length octets
    → number_of (bits_of_octets (take (at + 1) octets)) ≡ 256 * number_of (bits_of_octets (take at octets)) + get_or octets at 0
number_of-next_octet octets at low =
    let o : ℕ = get_or octets at 0 in
    let front : List ℕ = take at octets in
    let count : at + 1 ≡ suc at = omega arith in
    let more = number_of-append (bits_of_octets front) (bits_of_octets (o ∷ [])) in
    ap (λ n. number_of (bits_of_octets (take n octets))) count
    ∙ ap (λ l. number_of (bits_of_octets l)) (take-suc octets at 0 low)
    ∙ ap (λ l. number_of l) (bits_of_octets-append front (o ∷ []))
    ∙ omega (arith, more, octet_number o)

-- less than eight of them have a number that has room for one more
pub first_octets_small : (octets : List ℕ) (at : ℕ) → AreOctets octets → at < length octets → length octets ≤ 8
    → 256 * number_of (bits_of_octets (take at octets)) + 255 < 2 ^ 64
first_octets_small octets at small low few =
    let front : List ℕ = take at octets in
    let count : length front ≡ at = length-take-le at octets (omega arith) in
    let bytes : AreOctets front = AreOctets-take at octets small in
    let less = number_of-lt (bits_of_octets front) (IsBits-bits_of_octets front bytes) in
    let power : 2 ^ length (bits_of_octets front) ≤ 2 ^ 56 = pow_mono {i = length (bits_of_octets front)} {j = 56}
    (omega (arith, length-bits_of_octets front, count)) in
    omega (arith, less, power)

-- the first bits of some write the number of all without that of the others
pub number_of-first : (bits : List ℕ) (n : ℕ) → IsBits bits → n ≤ length bits → number_of bits / 2 ^ (length bits - n) ≡ number_of (take n bits)
number_of-first bits n are within =
    let back : List ℕ = drop n bits in
    let count : length back ≡ length bits - n = length-drop n bits in
    let less : number_of back < 2 ^ (length bits - n) = rw (sym count) (number_of-lt back (IsBits-drop n bits are)) in
    let parts : number_of bits ≡ number_of (take n bits) * 2 ^ (length bits - n) + number_of back =
    ap (λ l. number_of l) (sym (take-append-drop n bits)) ∙ number_of-append (take n bits) back
    ∙ ap (λ k. number_of (take n bits) * 2 ^ k + number_of back) count in
    ap (λ k. k / 2 ^ (length bits - n)) parts ∙ div-mul-add (number_of (take n bits)) (2 ^ (length bits - n)) (number_of back) less
