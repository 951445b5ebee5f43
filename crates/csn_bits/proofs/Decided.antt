-- A line has no fault exactly where it spells a block.
use Rattle.std.proofs.Common.{◌≡◌, ℕ, zero, suc, ◌+◌, ◌-◌, ◌%◌, ◌^◌, ◌<◌, ◌≤◌, ◌==◌, nat_le, Bool, true, false, not}
use Rattle.std.proofs.Common.{◌&&◌, List, [], ◌∷◌, ◌++◌, length, map, Option, Some, None, refl, sym, ap, ◌∙◌, arith}
use Rattle.std.proofs.Common.{eqb-true, inl, inr}
use Rattle.std.specs.Prelude.{option_map}
use Rattle.std.specs.List.{position_from}
use Rattle.std.proofs.lemmas.Bool.{agree_below, agree_below_at, and_parts, and_right, cases_Bool, cases_lt, lt-leb, leb-true}
use Rattle.std.proofs.lemmas.List.{length-map}
use Rattle.hex.specs.Hex.{encode_upper, is_hex_digit, upper_digits}
use Rattle.hex.proofs.HexLemmas.{length-encode_with}
use Rattle.csn_bits.specs.Octets.{IsBits, octet_of, octets_of}
use Rattle.csn_bits.specs.Line.{BlockLine, bits_of_tail, digits_of, fault_of, is_dot, last_of, octets_of_digits, tail_of, upper, value_of, written}
use Rattle.csn_bits.specs.Feed.{AreDigits, tail_text, waiting_value}
use Rattle.csn_bits.proofs.Faults.{IsWhole, fault-bad_digit, fault-fill, fault-many, fault-no_octet, fault-none, fault-odd, fault-tail}
use Rattle.csn_bits.proofs.Packing.{AreOctets, length-octets_of, octets_of-small}
use Rattle.csn_bits.proofs.ReadBack.{AreDigits-encode_upper, bits_of_tail-tail_for, counted_for}
use Rattle.csn_bits.proofs.ReadBack.{octets_of_digits-encode_upper, tail_for, waiting-encode_upper, written_parts}
use Rattle.csn_bits.proofs.Written.{block_line-dot, counting_byte, ends_with, upper_low}

-- ---- a line without fault spells a block

-- any line is digits with a tail, or has a byte before any `/` that is no digit
data Parts (line : List ℕ) : Type 0 where
  whole : (digits : List ℕ) (tail : Option (List ℕ)) → line ≡ digits ++ tail_text tail → AreDigits digits → Parts line
  broken : (front : List ℕ) (byte : ℕ) (back : List ℕ) → line ≡ front ++ byte ∷ back → AreDigits front
      → is_hex_digit byte ≡ false → (byte == 47) ≡ false → Parts line

parts-cons : (byte : ℕ) (rest : List ℕ) → is_hex_digit byte ≡ true → Parts rest → Parts (byte ∷ rest)
parts-cons byte rest digit (whole digits tail l s) = whole (byte ∷ digits) tail (ap (λ (x : List ℕ). byte ∷ x) l) (digit, s)
parts-cons byte rest digit (broken front b back l s f other) =
    broken (byte ∷ front) b back (ap (λ (x : List ℕ). byte ∷ x) l) (digit, s) f other

parts : (line : List ℕ) → Parts line
parts [] = whole [] None refl tt
parts (byte ∷ rest) = elim (cases_Bool (byte == 47)) [
  | inl slash ↦ whole [] (Some rest) (ap (λ (b : ℕ). b ∷ rest) (eqb-true byte 47 slash)) tt
  | inr other ↦ elim (cases_Bool (is_hex_digit byte)) [
    | inl digit ↦ parts-cons byte rest digit (parts rest)
    | inr fails ↦ broken [] byte rest refl tt fails other
  ]
]

-- a line of one dot
dot_line : (line : List ℕ) → is_dot line ≡ true → line ≡ 46 ∷ []
dot_line [] h = absurd (cc)
dot_line (byte ∷ []) h = ap (λ (b : ℕ). b ∷ []) (eqb-true byte 46 h)
dot_line (a ∷ b ∷ rest) h = absurd (cc)

-- a tail counts 1 to 8 bits
counted_range : (tail : Option (List ℕ)) (used : ℕ) → bits_of_tail tail ≡ Some used → (1 ≤ used) × (used ≤ 8)
counted_range None used counts = (let e : 8 ≡ used = cc in (omega arith, omega arith))
counted_range (Some []) used counts = absurd (cc)
counted_range (Some (byte ∷ [])) used counts =
    let (low, high, is) = counting_byte byte used counts in (omega arith, omega arith)
counted_range (Some (a ∷ b ∷ rest)) used counts = absurd (cc)

abbrev Spelled : List ℕ → Type 0
Spelled line = (bits : List ℕ) × BlockLine line bits

-- of digits with a tail, by what is kept of them
spelled_whole : (digits : List ℕ) (tail : Option (List ℕ)) (waiting last counted : Option ℕ) → AreDigits digits
    → waiting_value digits ≡ waiting → last_of (octets_of_digits digits) ≡ last → bits_of_tail tail ≡ counted
    → fault_of (digits ++ tail_text tail) ≡ None → Spelled (digits ++ tail_text tail)
spelled_whole digits tail (Some digit) last counted s w o u none =
    absurd (let wrong = sym none ∙ fault-odd digits tail digit s w in cc)
spelled_whole digits tail None None counted s w o u none =
    absurd (let wrong = sym none ∙ fault-no_octet digits tail s w o in cc)
spelled_whole digits tail None (Some octet) None s w o u none =
    absurd (let wrong = sym none ∙ fault-tail digits tail s u in cc)
spelled_whole digits tail None (Some octet) (Some used) s w o u none =
    let range = counted_range tail used u in
    let wh : IsWhole digits tail octet used =
    record { are_digits = s; even = w; last = o; counts = u; some = range.0; few = range.1 } in
    elim (cases_lt 0 (octet % 2 ^ (8 - used))) [
      | inl filled ↦ absurd (let wrong = sym none ∙ fault-fill digits tail octet used wh filled in cc)
      | inr zeros ↦ (
          let is_zero : octet % 2 ^ (8 - used) ≡ 0 = omega arith in
          elim (cases_lt 131072 (length digits)) [
            | inl many ↦ absurd (let wrong = sym none ∙ fault-many digits tail octet used wh is_zero many in cc)
            | inr fits ↦ (_, (ends_with digits tail octet used wh is_zero fits).spelled)
          ])
    ]

spelled_parts : (line : List ℕ) → Parts line → fault_of line ≡ None → Spelled line
spelled_parts line (whole digits tail l s) none =
    rw l (spelled_whole digits tail _ _ _ s refl refl refl (rw l at none))
spelled_parts line (broken front byte back l s f other) none = elim (cases_Bool (is_dot line)) [
  | inl dot ↦ ([], rw (dot_line line dot) block_line-dot)
  | inr dotless ↦ absurd (
      let bad = fault-bad_digit front byte back s f other (rw l at dotless) in
      let wrong = sym none ∙ ap (λ (x : List ℕ). fault_of x) l ∙ bad in cc)
]

-- ---- a line that spells a block has no fault

-- a byte above the digits stands in upper case
upper_high : (byte : ℕ) → 102 < byte → upper byte ≡ byte
upper_high byte high = rw (and_right (nat_le 97 byte) (nat_le byte 102) (lt-leb byte 102 high)) refl

-- a test of bytes that does not tell upper case from lower case among the digits
upper_test : (test : ℕ → Bool) → agree_below (λ byte. test (upper byte)) test 103 ≡ true → (byte : ℕ) → test (upper byte) ≡ test byte
upper_test test agrees byte = elim (cases_lt byte 103) [
  | inl low ↦ agree_below_at (λ b. test (upper b)) test 103 byte agrees low
  | inr high ↦ ap test (upper_high byte (omega arith))
]

digits_of-upper : (line : List ℕ) → digits_of (map upper line) ≡ map upper (digits_of line)
digits_of-upper [] = refl
digits_of-upper (byte ∷ rest) =
    let same = upper_test (λ b. b == 47) refl byte in
    elim (cases_Bool (byte == 47)) [
      | inl slash ↦ rw (same ∙ slash, slash) refl
      | inr other ↦ rw (same ∙ other, other) (ap (λ (x : List ℕ). upper byte ∷ x) (digits_of-upper rest))
    ]

tail_of-upper : (line : List ℕ) → tail_of (map upper line) ≡ option_map (λ tail. map upper tail) (tail_of line)
tail_of-upper [] = refl
tail_of-upper (byte ∷ rest) =
    let same = upper_test (λ b. b == 47) refl byte in
    elim (cases_Bool (byte == 47)) [
      | inl slash ↦ rw (same ∙ slash, slash) refl
      | inr other ↦ rw (same ∙ other, other) (tail_of-upper rest)
    ]

bits_of_tail-upper : (tail : Option (List ℕ)) → bits_of_tail (option_map (λ t. map upper t) tail) ≡ bits_of_tail tail
bits_of_tail-upper None = refl
bits_of_tail-upper (Some []) = refl
bits_of_tail-upper (Some (byte ∷ [])) =
    let same = upper_test (λ b. nat_le 49 b && nat_le b 55) refl byte in
    elim (cases_Bool (nat_le 49 byte && nat_le byte 55)) [
      | inl within ↦ (
          let (low, high) = and_parts (nat_le 49 byte) (nat_le byte 55) within in
          let most = leb-true _ _ high in
          rw (upper_low byte (omega arith)) refl)
      | inr outside ↦ rw (same ∙ outside, outside) refl
    ]
bits_of_tail-upper (Some (a ∷ b ∷ rest)) = refl

bad_place-upper : (digits : List ℕ) (i : ℕ)
    → position_from (λ b. not (is_hex_digit b)) i (map upper digits) ≡ position_from (λ b. not (is_hex_digit b)) i digits
bad_place-upper [] i = refl
bad_place-upper (byte ∷ digits) i = rw (upper_test is_hex_digit refl byte, bad_place-upper digits (i + 1)) refl

value_of-upper : (byte : ℕ) → value_of (upper byte) ≡ value_of byte
value_of-upper byte = elim (cases_lt byte 103) [
  | inl low ↦ eqb-true _ _ (agree_below_at (λ b. value_of (upper b) == value_of b) (λ _. true) 103 byte refl low)
  | inr high ↦ ap (λ (b : ℕ). value_of b) (upper_high byte (omega arith))
]

octets_of_digits-upper : (digits : List ℕ) → octets_of_digits (map upper digits) ≡ octets_of_digits digits
octets_of_digits-upper [] = refl
octets_of_digits-upper (d ∷ []) = refl
octets_of_digits-upper (h ∷ l ∷ rest) = rw (value_of-upper h, value_of-upper l, octets_of_digits-upper rest) refl

is_dot-upper : (line : List ℕ) → is_dot (map upper line) ≡ is_dot line
is_dot-upper [] = refl
is_dot-upper (byte ∷ []) = upper_test (λ b. b == 46) refl byte
is_dot-upper (a ∷ b ∷ rest) = refl

fault_of-upper : (line : List ℕ) → fault_of (map upper line) ≡ fault_of line
fault_of-upper line =
    rw (
      is_dot-upper line,
      digits_of-upper line,
      tail_of-upper line,
      bits_of_tail-upper (tail_of line),
      bad_place-upper (digits_of line) 0,
      octets_of_digits-upper (digits_of line),
      length-map (digits_of line) upper,
    ) refl

-- ---- what is written has no fault

last_of-cons : (x : ℕ) (xs : List ℕ) → 1 ≤ length xs → last_of (x ∷ xs) ≡ last_of xs
last_of-cons x [] some = absurd (omega arith)
last_of-cons x (y ∷ rest) some = refl

last_there : (xs : List ℕ) → 1 ≤ length xs → (x : ℕ) × (last_of xs ≡ Some x)
last_there [] some = absurd (omega arith)
last_there (x ∷ []) some = (x, refl)
last_there (x ∷ y ∷ rest) some = last_there (y ∷ rest) (omega arith)

-- the unused bits of the last octet are 0
zeros_after : (bits : List ℕ) (octet : ℕ) → last_of (octets_of bits) ≡ Some octet → octet % 2 ^ (8 - counted_for (length bits % 8)) ≡ 0
zeros_after [] octet is = absurd (cc)
zeros_after (a ∷ b ∷ c ∷ d ∷ e ∷ f ∷ g ∷ h ∷ []) octet is = omega arith
zeros_after (a ∷ b ∷ c ∷ d ∷ e ∷ f ∷ g ∷ h ∷ i ∷ rest) octet is =
    let more : List ℕ = i ∷ rest in
    let some : 1 ≤ length (octets_of more) = omega (arith, length-octets_of more) in
    let r : suc (suc (suc (suc (suc (suc (suc (suc (length more)))))))) % 8 ≡ length more % 8 = omega arith in
    rw r (zeros_after (i ∷ rest) octet (sym (last_of-cons _ (octets_of more) some) ∙ is))
zeros_after few octet is = (let e : octet_of few ≡ octet = cc in omega arith)

counted_for-range : (n : ℕ) → n < 8 → (1 ≤ counted_for n) × (counted_for n ≤ 8)
counted_for-range zero few = (omega arith, omega arith)
counted_for-range (suc n) few = (omega arith, omega arith)

fault_of-written : (bits : List ℕ) → IsBits bits → length bits ≤ 524288 → fault_of (written bits) ≡ None
fault_of-written [] s few = refl
fault_of-written (bit ∷ rest) s few =
    let bits : List ℕ = bit ∷ rest in
    let octets : List ℕ = octets_of bits in
    let bytes : AreOctets octets = λ k. octets_of-small bits k s in
    let n : ℕ = length bits % 8 in
    let number = length-octets_of bits in
    let twice = length-encode_with upper_digits octets in
    let (octet, last) = last_there octets (omega arith) in
    let range = counted_for-range n (omega arith) in
    let wh : IsWhole (encode_upper octets) (tail_for n) octet (counted_for n) =
    record {
      are_digits = AreDigits-encode_upper octets bytes;
      even = waiting-encode_upper octets;
      last = ap (λ (os : List ℕ). last_of os) (octets_of_digits-encode_upper octets bytes) ∙ last;
      counts = bits_of_tail-tail_for n (omega arith);
      some = range.0;
      few = range.1;
    } in
    ap (λ (l : List ℕ). fault_of l) (written_parts bits (omega arith))
    ∙ fault-none (encode_upper octets) (tail_for n) octet (counted_for n) wh (zeros_after bits octet last) (omega arith)

-- ---- both ways

pub fault_or_block : (line : List ℕ) → (fault_of line ≡ None → (bits : List ℕ) × BlockLine line bits)
    × (((bits : List ℕ) × BlockLine line bits) → fault_of line ≡ None)
fault_or_block line = (
  λ none. spelled_parts line (parts line) none,
  λ (bits, block).
      sym (fault_of-upper line) ∙ ap (λ (l : List ℕ). fault_of l) block.spelled ∙ fault_of-written bits block.zeros_and_ones block.few,
)
