-- What is written, and block lines.
use Rattle.std.proofs.Common.{◌≡◌, ℕ, zero, suc, ◌+◌, ◌-◌, ◌*◌, ◌/◌, ◌%◌, ◌^◌, ◌<◌, ◌≤◌, ◌==◌, nat_lt, nat_le, Bool}
use Rattle.std.proofs.Common.{true, false, not, ◌&&◌, ◌||◌, List, [], ◌∷◌, ◌++◌, length, take, map, get_or}
use Rattle.std.proofs.Common.{slice_index, codes, Option, Some, None, unwrap_or, is_some, refl, sym, ap, subst, ◌∙◌}
use Rattle.std.proofs.Common.{arith, append-nil, length-append, eqb-true, inl, inr}
use Rattle.std.proofs.lemmas.Bool.{agree_below_at, and_left, and_parts, cases_Bool, cases_lt, lt-leb, leb-true, ltb-true}
use Rattle.std.proofs.lemmas.List.{get_or_push, length_push, length-take, length-take-le, map-append, take_all}
use Rattle.hex.specs.Hex.{encode_upper, encode_with, hex_digit_value, is_hex_digit, upper_digits}
use Rattle.csn_bits.specs.Octets.{IsBits, IsPacked, bits_of_octet, bits_of_octets, octets_of}
use Rattle.csn_bits.specs.Line.{BlockLine, bits_of_tail, octets_of_digits, tail_written, upper, value_of, written}
use Rattle.csn_bits.specs.Feed.{AreDigits, EndsWith, Gives, all_but_last, leading_digits, octets_given, octets_of_step, tail_text, waiting_value}
use Rattle.csn_bits.specs.declared.feed.HexStep.{HexStep}
use Rattle.csn_bits.specs.declared.feed.HexStep.TheVariants.{Nothing, Octet}
use Rattle.csn_bits.proofs.Digits.{last_parts, leading-all, leading-stop, length-octets_even}
use Rattle.csn_bits.proofs.Faults.{IsWhole}
use Rattle.csn_bits.proofs.HexDigits.{high_fails}
use Rattle.csn_bits.proofs.Packing.{AreOctets, Packs, packs_from, length-packed, IsBits-append, IsBits-bits_of_octet}
use Rattle.csn_bits.proofs.Packing.{IsBits-bits_of_octets, IsBits-take, length-bits_of_octets, octet_of-bits_of_octet}

-- ---- one digit

-- a digit is written in upper case as the digit of its value, which is below 16
abbrev spelled_well : ℕ → Bool
spelled_well byte =
    not (is_hex_digit byte) || (nat_lt (value_of byte) 16 && upper byte == slice_index upper_digits (value_of byte))

spelled_below : (byte : ℕ) → byte < 103 → spelled_well byte ≡ true
spelled_below byte low = agree_below_at spelled_well (λ _. true) 103 byte refl low

pub digit_spelled : (byte : ℕ) → is_hex_digit byte ≡ true → (value_of byte < 16) × (upper byte ≡ slice_index upper_digits (value_of byte))
digit_spelled byte h = elim (cases_lt byte 103) [
  | inl low ↦ (
      let well = rw h at (spelled_below byte low) in
      let (small, same) = and_parts (nat_lt (value_of byte) 16) (upper byte == slice_index upper_digits (value_of byte)) well in
      (ltb-true _ _ small, eqb-true _ _ same))
  | inr high ↦ (let wrong = high_fails byte (omega arith) in absurd (let e : true ≡ false = sym h ∙ wrong in cc))
]

none_small : (value : Option ℕ) → is_some value ≡ false → unwrap_or value 0 < 16
none_small None none = omega arith
none_small (Some n) none = absurd (cc)

value_small : (byte : ℕ) → value_of byte < 16
value_small byte = elim (cases_Bool (is_hex_digit byte)) [
  | inl digit ↦ (digit_spelled byte digit).0
  | inr other ↦ none_small (hex_digit_value byte) other
]

-- the octets of digits, written, are the digits in upper case
pub encode_upper-octets_of_digits : (digits : List ℕ) → AreDigits digits → waiting_value digits ≡ None
    → encode_upper (octets_of_digits digits) ≡ map upper digits
unfolding encode_with
encode_upper-octets_of_digits [] s even = refl
encode_upper-octets_of_digits (d ∷ []) s even = absurd (cc)
encode_upper-octets_of_digits (h ∷ l ∷ rest) (sh, (sl, s)) even =
    let high = digit_spelled h sh in
    let low = digit_spelled l sl in
    let small = low.0 in
    let first : (16 * value_of h + value_of l) / 16 ≡ value_of h = omega arith in
    let second : (16 * value_of h + value_of l) % 16 ≡ value_of l = omega arith in
    let later = encode_upper-octets_of_digits rest s even in
    rw (high.1, low.1, first, second)
    (ap (λ (x : List ℕ). slice_index upper_digits (value_of h) ∷ slice_index upper_digits (value_of l) ∷ x) later)

-- the octets of digits are octets
pub AreOctets-octets_of_digits : (digits : List ℕ) → AreOctets (octets_of_digits digits)
AreOctets-octets_of_digits [] k = omega arith
AreOctets-octets_of_digits (d ∷ []) k = omega arith
AreOctets-octets_of_digits (h ∷ l ∷ rest) zero = let a = value_small h in let b = value_small l in omega arith
AreOctets-octets_of_digits (h ∷ l ∷ rest) (suc k) = AreOctets-octets_of_digits rest k

AreOctets-take : (n : ℕ) (octets : List ℕ) → AreOctets octets → AreOctets (take n octets)
AreOctets-take zero octets bytes k = omega arith
AreOctets-take (suc n) [] bytes k = omega arith
AreOctets-take (suc n) (o ∷ rest) bytes zero = bytes 0
AreOctets-take (suc n) (o ∷ rest) bytes (suc k) = AreOctets-take n rest (λ i. bytes (suc i)) k

-- ---- the octets of a block

pub octets_of-behind : (front bits : List ℕ) → octets_of (bits_of_octets front ++ bits) ≡ front ++ octets_of bits
octets_of-behind [] bits = refl
octets_of-behind (n ∷ front) bits =
    ap (λ (m : ℕ). m ∷ octets_of (bits_of_octets front ++ bits)) (octet_of-bits_of_octet n)
    ∙ ap (λ (l : List ℕ). n ∷ l) (octets_of-behind front bits)

octets_of-last : (octet used : ℕ) → 1 ≤ used → used ≤ 8 → octet % 2 ^ (8 - used) ≡ 0 → octets_of (take used (bits_of_octet octet)) ≡ octet ∷ []
octets_of-last octet zero some few h = absurd (omega arith)
octets_of-last octet (suc (suc (suc (suc (suc (suc (suc (suc (suc n))))))))) some few h = absurd (omega arith)
octets_of-last octet used some few h = ap (λ (m : ℕ). m ∷ []) (omega arith)

-- what is written for some bits, where there are any
pub written-some : (bits : List ℕ) → 1 ≤ length bits → written bits ≡ encode_upper (octets_of bits) ++ tail_written (length bits % 8)
written-some [] some = absurd (omega arith)
written-some (bit ∷ rest) some = refl

-- ---- the tail

-- a byte below `a` stands in upper case
pub upper_low : (byte : ℕ) → byte < 97 → upper byte ≡ byte
upper_low byte low = rw (and_left (nat_le 97 byte) (nat_le byte 102) (lt-leb 97 byte low)) refl

pub tail_written-some : (n : ℕ) → 1 ≤ n → tail_written n ≡ 47 ∷ (48 + n) ∷ []
tail_written-some zero some = absurd (omega arith)
tail_written-some (suc n) some = refl

-- a byte that counts bits
pub counting_byte : (byte used : ℕ) → bits_of_tail (Some (byte ∷ [])) ≡ Some used → (49 ≤ byte) × (byte ≤ 55) × (used ≡ byte - 48)
counting_byte byte used counts = elim (cases_Bool (nat_le 49 byte && nat_le byte 55)) [
  | inl within ↦ (
      let (low, high) = and_parts (nat_le 49 byte) (nat_le byte 55) within in
      let is = rw within at counts in
      (leb-true _ _ low, leb-true _ _ high, (let e : byte - 48 ≡ used = cc in sym e)))
  | inr outside ↦ (let is = rw outside at counts in absurd (cc))
]

-- it stands in upper case, and is written for so many bits
tail_in_upper : (tail : Option (List ℕ)) (used before : ℕ) → bits_of_tail tail ≡ Some used
    → map upper (tail_text tail) ≡ tail_written ((8 * before + used) % 8)
tail_in_upper None used before counts =
    let eight : 8 ≡ used = cc in
    let none : (8 * before + used) % 8 ≡ 0 = omega arith in
    rw none refl
tail_in_upper (Some []) used before counts = absurd (cc)
tail_in_upper (Some (byte ∷ [])) used before counts =
    let (low, high, is) = counting_byte byte used counts in
    let rest : (8 * before + used) % 8 ≡ used = omega arith in
    let same : upper byte ≡ byte = upper_low byte (omega arith) in
    let digit : byte ≡ 48 + used = omega arith in
    rw (rest, tail_written-some used (omega arith), same, digit) refl
tail_in_upper (Some (a ∷ b ∷ rest)) used before counts = absurd (cc)

-- ---- block lines

-- the digits that a line of digits and a tail begins with
pub leading-read : (digits : List ℕ) (tail : Option (List ℕ)) → AreDigits digits → leading_digits (digits ++ tail_text tail) ≡ digits
leading-read digits None s = rw (append-nil digits) (leading-all digits s)
leading-read digits (Some tail) s = leading-stop digits 47 tail s refl

-- a line of whole octets and a tail that counts bits of the last one, and has no unused bit 1, is the
-- line of the octets before the last one and of the counted bits
block_line : (digits : List ℕ) (tail : Option (List ℕ)) (octet used : ℕ) → IsWhole digits tail octet used
    → octet % 2 ^ (8 - used) ≡ 0 → length digits ≤ 131072
    → BlockLine (digits ++ tail_text tail) (bits_of_octets (octets_given (digits ++ tail_text tail)) ++ take used (bits_of_octet octet))
block_line digits tail octet used w zeros fits =
    let octets : List ℕ = octets_of_digits digits in
    let bytes : AreOctets octets = AreOctets-octets_of_digits digits in
    let front : List ℕ = all_but_last octets in
    let parts : octets ≡ front ++ octet ∷ [] = last_parts octets octet w.last in
    let n : length octets ≡ length front + 1 = ap length parts ∙ length_push front octet in
    let small : octet < 256 =
    (let last = bytes (length front) in
    let is : get_or octets (length front) 0 ≡ octet =
    ap (λ (l : List ℕ). get_or l (length front) 0) parts ∙ get_or_push front octet 0 (length front) refl in
    rw is at last) in
    let pairs = length-octets_even digits w.even in
    let some = w.some in
    let few = w.few in
    let short : take 65536 front ≡ front = take_all 65536 front (omega arith) in
    let given : octets_given (digits ++ tail_text tail) ≡ front =
    ap (λ (l : List ℕ). take 65536 (all_but_last (octets_of_digits l))) (leading-read digits tail w.are_digits) ∙ short in
    let bits : List ℕ = bits_of_octets front ++ take used (bits_of_octet octet) in
    let last_len : length (take used (bits_of_octet octet)) ≡ used = length-take-le used (bits_of_octet octet) w.few in
    let len : length bits ≡ 8 * length front + used =
    length-append (bits_of_octets front) (take used (bits_of_octet octet)) ∙ (let m = length-bits_of_octets front in omega arith) in
    let packed : octets_of bits ≡ octets =
    octets_of-behind front (take used (bits_of_octet octet))
    ∙ ap (λ (l : List ℕ). front ++ l) (octets_of-last octet used w.some w.few zeros) ∙ sym parts in
    rw given (record {
      zeros_and_ones =
          IsBits-append (bits_of_octets front) (take used (bits_of_octet octet))
          (IsBits-bits_of_octets front (AreOctets-take (length octets - 1) octets bytes))
          (IsBits-take used (bits_of_octet octet) (IsBits-bits_of_octet octet small));
      few = omega arith;
      spelled =
          map-append upper digits (tail_text tail)
          ∙ (rw (
            written-some bits (omega arith),
            packed,
            len,
            encode_upper-octets_of_digits digits w.are_digits w.even,
            tail_in_upper tail used (length front) w.counts,
          ) refl);
    })

-- some octets and one more, of which so many bits count, hold the bits of these
packs_behind : (front : List ℕ) (octet used : ℕ) → used ≤ 8 → octets_of (take used (bits_of_octet octet)) ≡ octet ∷ []
    → IsBits (bits_of_octets front ++ take used (bits_of_octet octet)) → length (bits_of_octets front ++ take used (bits_of_octet octet)) ≤ 524288
    → Packs (front ++ octet ∷ []) (8 * length front + used) (bits_of_octets front ++ take used (bits_of_octet octet))
packs_behind front octet used few filled bits fits =
    let back : List ℕ = take used (bits_of_octet octet) in
    let len : length (bits_of_octets front ++ back) ≡ 8 * length front + used =
    length-append (bits_of_octets front) back ∙ ap (λ (n : ℕ). n + length back) (length-bits_of_octets front)
    ∙ ap (λ (n : ℕ). 8 * length front + n) (length-take-le used (bits_of_octet octet) few) in
    let exact : front ++ octet ∷ [] ≡ octets_of (bits_of_octets front ++ back) =
    sym (octets_of-behind front back ∙ ap (λ (l : List ℕ). front ++ l) filled) in
    packs_from (front ++ octet ∷ []) (bits_of_octets front ++ back) (8 * length front + used) exact (sym len) bits (subst (λ (n : ℕ). n ≤ 524288) len fits)

-- the octets given, with the last one, hold the bits of the line
packs_line : (line : List ℕ) (octet used : ℕ) → EndsWith line octet used
    → Packs (octets_given line ++ octet ∷ []) (8 * length (octets_given line) + used)
    (bits_of_octets (octets_given line) ++ take used (bits_of_octet octet))
packs_line line octet used e = packs_behind (octets_given line) octet used e.few e.filled e.spelled.zeros_and_ones e.spelled.few

-- they are kept, and the bits are those of the whole line
pub packs_kept : (line octets kept : List ℕ) (octet used count : ℕ) → octets ≡ octets_given line → kept ≡ octets ++ octet ∷ [] → count ≡ length octets
    → EndsWith line octet used
    → Packs kept (8 * count + used) (bits_of_octets (octets_given line) ++ take used (bits_of_octet octet))
packs_kept line octets kept octet used count given pushed counted e =
    let bits : List ℕ = bits_of_octets (octets_given line) ++ take used (bits_of_octet octet) in
    subst (λ (l : List ℕ). Packs l (8 * count + used) bits) (sym (pushed ∙ ap (λ (os : List ℕ). os ++ octet ∷ []) given))
    (subst (λ (n : ℕ). Packs (octets_given line ++ octet ∷ []) (8 * n + used) bits) (sym (counted ∙ ap length given)) (packs_line line octet used e))

pub line_kept : (line whole octets kept : List ℕ) (octet used count : ℕ) → line ≡ whole → octets ≡ octets_given line → kept ≡ octets ++ octet ∷ []
    → count ≡ length octets → EndsWith line octet used → BlockLine whole (take (8 * count + used) (bits_of_octets kept))
line_kept line whole octets kept octet used count is given pushed counted e =
    let bits : List ℕ = bits_of_octets (octets_given line) ++ take used (bits_of_octet octet) in
    subst (λ (b : List ℕ). BlockLine whole b) (sym (packs_kept line octets kept octet used count given pushed counted e).1)
    (subst (λ (l : List ℕ). BlockLine l bits) is e.spelled)

-- what a step gives stands behind what was given
pub gives_octet : (line : List ℕ) (byte octet : ℕ) (step : HexStep) → step ≡ Octet octet → Gives line byte step
    → octets_given line ++ octet ∷ [] ≡ octets_given (line ++ byte ∷ [])
gives_octet line byte octet step is given = sym (given ∙ ap (λ (s : HexStep). octets_given line ++ octets_of_step s) is)

pub gives_nothing : (line : List ℕ) (byte : ℕ) (step : HexStep) → step ≡ Nothing → Gives line byte step
    → octets_given line ≡ octets_given (line ++ byte ∷ [])
gives_nothing line byte step is given = sym (given ∙ ap (λ (s : HexStep). octets_given line ++ octets_of_step s) is ∙ append-nil (octets_given line))

few_taken : (most : ℕ) (xs : List ℕ) → length (take most xs) ≤ most
few_taken most xs = omega (arith, length-take most xs)

-- a feed gives no more octets than a block has
few_given : (line : List ℕ) → length (octets_given line) ≤ 65536
few_given line = few_taken 65536 (all_but_last (octets_of_digits (leading_digits line)))

pub kept_few : (line octets : List ℕ) (count : ℕ) → octets ≡ octets_given line → count ≡ length octets → count ≤ 65536
kept_few line octets count given counted =
    (let few = few_given line in let same : count ≡ length (octets_given line) = counted ∙ ap length given in
    subst (λ (n : ℕ). n ≤ 65536) (sym same) few)

-- a whole line ends with its last octet
pub ends_with : (digits : List ℕ) (tail : Option (List ℕ)) (octet used : ℕ) → IsWhole digits tail octet used
    → octet % 2 ^ (8 - used) ≡ 0 → length digits ≤ 131072 → EndsWith (digits ++ tail_text tail) octet used
ends_with digits tail octet used w zeros fits = record {
  some = w.some;
  few = w.few;
  filled = octets_of-last octet used w.some w.few zeros;
  spelled = block_line digits tail octet used w zeros fits;
}

-- ---- what is written

-- a bit string writes its octets, and its tail
pub written-packed : (octets : List ℕ) (len : ℕ) → IsPacked octets len → 1 ≤ len
    → written (take len (bits_of_octets octets)) ≡ encode_upper octets ++ tail_written (len % 8)
written-packed octets len p some =
    let count = length-packed octets len p in
    written-some (take len (bits_of_octets octets)) (omega arith) ∙ (rw (count, ← p.exact) refl)

pub written-none : (octets : List ℕ) (len : ℕ) → len ≡ 0 → written (take len (bits_of_octets octets)) ≡ codes "."
written-none octets len none = rw none refl

-- the line of the empty block
pub block_line-dot : BlockLine (codes ".") []
block_line-dot = record { zeros_and_ones = tt; few = omega arith; spelled = refl }

pub dot_line : (line bits : List ℕ) → line ≡ codes "." → bits ≡ [] → BlockLine line bits
dot_line line bits dot none =
    subst (λ (l : List ℕ). BlockLine l bits) (sym dot) (subst (λ (b : List ℕ). BlockLine (codes ".") b) (sym none) block_line-dot)
