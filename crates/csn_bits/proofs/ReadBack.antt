-- What is written is read back alone.
use Rattle.std.proofs.Common.{◌≡◌, ℕ, true, zero, suc, ◌+◌, ◌-◌, ◌*◌, ◌/◌, ◌%◌, ◌<◌, ◌≤◌, List, [], ◌∷◌, ◌++◌, length}
use Rattle.std.proofs.Common.{take, map, slice_index, Option, Some, None, unwrap_or, is_some, refl, sym, ap, ◌∙◌}
use Rattle.std.proofs.Common.{arith}
use Rattle.std.proofs.lemmas.List.{map-append}
use Rattle.hex.specs.Hex.{encode_upper, encode_with, is_hex_digit, upper_digits}
use Rattle.hex.proofs.HexLemmas.{IsDigits-upper_digits}
use Rattle.csn_bits.specs.Octets.{IsBits, bits_of_octets, octets_of}
use Rattle.csn_bits.specs.Line.{BlockLine, bits_of_tail, octets_of_digits, tail_of, tail_written, upper, value_of, written}
use Rattle.csn_bits.specs.Feed.{AreDigits, leading_digits, tail_text, waiting_value}
use Rattle.csn_bits.proofs.Faults.{tail_of-read}
use Rattle.csn_bits.proofs.Packing.{AreOctets, length-octets_of, octets_of-small, take-bits_of_octets-octets_of}
use Rattle.csn_bits.proofs.Written.{digit_spelled, leading-read, upper_low, written-some}

-- ---- the digits that are written

-- a written digit is a digit, of its value
written_digit : (d : ℕ) → d < 16 → (is_hex_digit (slice_index upper_digits d) ≡ true) × (value_of (slice_index upper_digits d) ≡ d)
written_digit d small =
    let value = IsDigits-upper_digits d small in (ap is_some value, ap (λ (o : Option ℕ). unwrap_or o 0) value)

-- and stands in upper case
written_upper : (d : ℕ) → d < 16 → upper (slice_index upper_digits d) ≡ slice_index upper_digits d
written_upper d small =
    let (digit, value) = written_digit d small in
    (digit_spelled (slice_index upper_digits d) digit).1 ∙ ap (λ (n : ℕ). slice_index upper_digits n) value

pub AreDigits-encode_upper : (octets : List ℕ) → AreOctets octets → AreDigits (encode_upper octets)
unfolding encode_with
AreDigits-encode_upper [] bytes = tt
AreDigits-encode_upper (o ∷ rest) bytes =
    let small = bytes 0 in
    ((written_digit (o / 16) (omega arith)).0, ((written_digit (o % 16) (omega arith)).0, AreDigits-encode_upper rest (λ k. bytes (suc k))))

pub octets_of_digits-encode_upper : (octets : List ℕ) → AreOctets octets → octets_of_digits (encode_upper octets) ≡ octets
unfolding encode_with
octets_of_digits-encode_upper [] bytes = refl
octets_of_digits-encode_upper (o ∷ rest) bytes =
    let small = bytes 0 in
    let high = (written_digit (o / 16) (omega arith)).1 in
    let low = (written_digit (o % 16) (omega arith)).1 in
    let later = octets_of_digits-encode_upper rest (λ k. bytes (suc k)) in
    let whole : 16 * (o / 16) + o % 16 ≡ o = omega arith in
    rw (high, low, whole) (ap (λ (l : List ℕ). o ∷ l) later)

pub waiting-encode_upper : (octets : List ℕ) → waiting_value (encode_upper octets) ≡ None
unfolding encode_with
waiting-encode_upper [] = refl
waiting-encode_upper (o ∷ rest) = waiting-encode_upper rest

upper-encode_upper : (octets : List ℕ) → AreOctets octets → map upper (encode_upper octets) ≡ encode_upper octets
unfolding encode_with
upper-encode_upper [] bytes = refl
upper-encode_upper (o ∷ rest) bytes =
    let small = bytes 0 in
    let high = written_upper (o / 16) (omega arith) in
    let low = written_upper (o % 16) (omega arith) in
    rw (high, low) (ap (λ (l : List ℕ). slice_index upper_digits (o / 16) ∷ slice_index upper_digits (o % 16) ∷ l)
    (upper-encode_upper rest (λ k. bytes (suc k))))

-- ---- the tail that is written

-- the tail for so many bits more than whole octets
abbrev pub tail_for : ℕ → Option (List ℕ)
tail_for zero = None
tail_for (suc n) = Some ((48 + suc n) ∷ [])

pub tail_text-tail_for : (n : ℕ) → tail_text (tail_for n) ≡ tail_written n
tail_text-tail_for zero = refl
tail_text-tail_for (suc n) = refl

-- the bits that it counts
abbrev pub counted_for : ℕ → ℕ
counted_for zero = 8
counted_for (suc n) = suc n

pub bits_of_tail-tail_for : (n : ℕ) → n < 8 → bits_of_tail (tail_for n) ≡ Some (counted_for n)
bits_of_tail-tail_for zero few = refl
bits_of_tail-tail_for (suc zero) few = refl
bits_of_tail-tail_for (suc (suc zero)) few = refl
bits_of_tail-tail_for (suc (suc (suc zero))) few = refl
bits_of_tail-tail_for (suc (suc (suc (suc zero)))) few = refl
bits_of_tail-tail_for (suc (suc (suc (suc (suc zero))))) few = refl
bits_of_tail-tail_for (suc (suc (suc (suc (suc (suc zero)))))) few = refl
bits_of_tail-tail_for (suc (suc (suc (suc (suc (suc (suc zero))))))) few = refl
bits_of_tail-tail_for (suc (suc (suc (suc (suc (suc (suc (suc n)))))))) few = absurd (omega arith)

upper-tail_written : (n : ℕ) → n < 8 → map upper (tail_written n) ≡ tail_written n
upper-tail_written zero few = refl
upper-tail_written (suc n) few = ap (λ (byte : ℕ). 47 ∷ byte ∷ []) (upper_low (48 + suc n) (omega arith))

-- ---- reading back

-- what is written for some bits, as digits and a tail
pub written_parts : (bits : List ℕ) → 1 ≤ length bits
    → written bits ≡ encode_upper (octets_of bits) ++ tail_text (tail_for (length bits % 8))
written_parts bits some =
    written-some bits some
    ∙ ap (λ (tail : List ℕ). encode_upper (octets_of bits) ++ tail) (sym (tail_text-tail_for (length bits % 8)))

-- what is written stands in upper case
upper-written : (bits : List ℕ) → IsBits bits → map upper (written bits) ≡ written bits
upper-written [] s = refl
upper-written (bit ∷ rest) s =
    let bits : List ℕ = bit ∷ rest in
    let octets : List ℕ = octets_of bits in
    let n : ℕ = length bits % 8 in
    map-append upper (encode_upper octets) (tail_written n)
    ∙ (rw (upper-encode_upper octets (λ k. octets_of-small bits k s), upper-tail_written n (omega arith)) refl)

pub written_is_read : (bits : List ℕ) → IsBits bits → length bits ≤ 524288 → BlockLine (written bits) bits
written_is_read bits s few = record { zeros_and_ones = s; few = few; spelled = upper-written bits s }

-- the bits that a line of whole octets spells
abbrev bits_read : List ℕ → List ℕ
bits_read line =
    take (8 * length (octets_of_digits (leading_digits line)) - 8 + unwrap_or (bits_of_tail (tail_of line)) 0)
    (bits_of_octets (octets_of_digits (leading_digits line)))

-- how many bits some octets and a tail have
count_back : (n r : ℕ) → n % 8 ≡ r → 1 ≤ n → 8 * ((n + 7) / 8) - 8 + counted_for r ≡ n
count_back n zero is some = omega arith
count_back n (suc r) is some = omega arith

bits_read-written : (bits : List ℕ) → IsBits bits → bits_read (written bits) ≡ bits
bits_read-written [] s = refl
bits_read-written (bit ∷ rest) s =
    let bits : List ℕ = bit ∷ rest in
    let octets : List ℕ = octets_of bits in
    let bytes : AreOctets octets = λ k. octets_of-small bits k s in
    let n : ℕ = length bits % 8 in
    let some : 1 ≤ length bits = omega arith in
    let tail : Option (List ℕ) = tail_for n in
    let digits = AreDigits-encode_upper octets bytes in
    let back : octets_of_digits (leading_digits (written bits)) ≡ octets =
    ap (λ (l : List ℕ). octets_of_digits (leading_digits l)) (written_parts bits some)
    ∙ ap (λ (l : List ℕ). octets_of_digits l) (leading-read (encode_upper octets) tail digits) ∙ octets_of_digits-encode_upper octets bytes in
    let counted : unwrap_or (bits_of_tail (tail_of (written bits))) 0 ≡ counted_for n =
    ap (λ (l : List ℕ). unwrap_or (bits_of_tail (tail_of l)) 0) (written_parts bits some)
    ∙ ap (λ (o : Option (List ℕ)). unwrap_or (bits_of_tail o) 0) (tail_of-read (encode_upper octets) tail digits)
    ∙ ap (λ (o : Option ℕ). unwrap_or o 0) (bits_of_tail-tail_for n (omega arith)) in
    let count : 8 * length octets - 8 + counted_for n ≡ length bits =
    ap (λ (m : ℕ). 8 * m - 8 + counted_for n) (length-octets_of bits) ∙ count_back (length bits) n refl some in
    ap (λ (os : List ℕ). take (8 * length os - 8 + unwrap_or (bits_of_tail (tail_of (written bits))) 0) (bits_of_octets os)) back
    ∙ ap (λ (u : ℕ). take (8 * length octets - 8 + u) (bits_of_octets octets)) counted
    ∙ ap (λ (m : ℕ). take m (bits_of_octets octets)) count
    ∙ take-bits_of_octets-octets_of bits s

pub written_apart : (a b : List ℕ) → IsBits a → IsBits b → written a ≡ written b → a ≡ b
written_apart a b s t same = sym (bits_read-written a s) ∙ ap (λ (l : List ℕ). bits_read l) same ∙ bits_read-written b t

pub spells_one_block : (line a b : List ℕ) → BlockLine line a → BlockLine line b → a ≡ b
spells_one_block line a b p q = written_apart a b p.zeros_and_ones q.zeros_and_ones (sym p.spelled ∙ q.spelled)
