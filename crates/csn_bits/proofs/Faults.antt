-- The first fault of a line, by its digits and its tail.
use Rattle.std.proofs.Common.{◌≡◌, ℕ, zero, suc, ◌+◌, ◌-◌, ◌*◌, ◌%◌, ◌^◌, ◌<◌, ◌≤◌, ◌==◌, nat_lt, true, false, not}
use Rattle.std.proofs.Common.{◌||◌, List, [], ◌∷◌, ◌++◌, length, sum, Option, Some, None, refl, sym, ap, ◌∙◌, arith}
use Rattle.std.specs.Prelude.{is_none}
use Rattle.std.specs.List.{position_from}
use Rattle.std.proofs.lemmas.Bool.{eq-eqb, ne_eqb, le-ltb, lt-ltb, or_left, or_right, or_from}
use Rattle.std.proofs.lemmas.List.{length_push}
use Rattle.hex.specs.Hex.{is_hex_digit}
use Rattle.csn_bits.specs.Line.{bad_fill, bad_length, bits_of_tail, digits_of, fault_of, first_fault, is_dot, last_of}
use Rattle.csn_bits.specs.Line.{octets_of_digits, tail_of, too_many_bits, unused_bits}
use Rattle.csn_bits.specs.Feed.{AreDigits, all_but_last, tail_text, waiting_value}
use Rattle.csn_bits.specs.declared.fault.LineWhy.{LineWhy}
use Rattle.csn_bits.specs.declared.fault.LineWhy.TheVariants.{BadDigit, BadLength, BadFill, TooManyBits}
use Rattle.csn_bits.proofs.Digits.{digit_no_dot, digit_no_slash, last_none, last_parts, length-octets_even, length-octets_odd}
use Rattle.csn_bits.proofs.Packing.{power_small}

-- ---- the parts of a line

digits_of-read : (digits : List ℕ) (tail : Option (List ℕ)) → AreDigits digits → digits_of (digits ++ tail_text tail) ≡ digits
digits_of-read [] None s = refl
digits_of-read [] (Some tail) s = refl
digits_of-read (d ∷ digits) tail s = rw (digit_no_slash d s.0) (ap (λ (l : List ℕ). d ∷ l) (digits_of-read digits tail s.1))

pub tail_of-read : (digits : List ℕ) (tail : Option (List ℕ)) → AreDigits digits → tail_of (digits ++ tail_text tail) ≡ tail
tail_of-read [] None s = refl
tail_of-read [] (Some tail) s = refl
tail_of-read (d ∷ digits) tail s = rw (digit_no_slash d s.0) (tail_of-read digits tail s.1)

pub is_dot-read : (digits : List ℕ) (tail : Option (List ℕ)) → AreDigits digits → is_dot (digits ++ tail_text tail) ≡ false
is_dot-read [] None s = refl
is_dot-read [] (Some []) s = refl
is_dot-read [] (Some (c ∷ tail)) s = refl
is_dot-read (d ∷ []) None s = digit_no_dot d s.0
is_dot-read (d ∷ []) (Some tail) s = refl
is_dot-read (d ∷ e ∷ digits) tail s = refl

no_bad_digit : (digits : List ℕ) (i : ℕ) → AreDigits digits → position_from (λ byte. not (is_hex_digit byte)) i digits ≡ None
no_bad_digit [] i s = refl
no_bad_digit (d ∷ digits) i s = rw s.0 (no_bad_digit digits (i + 1) s.1)

bad_digit_at : (front : List ℕ) (byte : ℕ) (back : List ℕ) (i : ℕ) → AreDigits front → is_hex_digit byte ≡ false
    → position_from (λ byte. not (is_hex_digit byte)) i (front ++ byte ∷ back) ≡ Some (i + length front)
bad_digit_at [] byte back i s fails = rw fails (ap (λ (n : ℕ). Some n) (omega arith))
bad_digit_at (d ∷ front) byte back i s fails =
    rw s.0 (bad_digit_at front byte back (i + 1) s.1 fails ∙ ap (λ (n : ℕ). Some n) (omega arith))

digits_of-bad : (front : List ℕ) (byte : ℕ) (back : List ℕ) → AreDigits front → (byte == 47) ≡ false
    → digits_of (front ++ byte ∷ back) ≡ front ++ byte ∷ digits_of back
digits_of-bad [] byte back s other = rw other refl
digits_of-bad (d ∷ front) byte back s other =
    rw (digit_no_slash d s.0) (ap (λ (l : List ℕ). d ∷ l) (digits_of-bad front byte back s.1 other))

-- ---- a bad digit

pub fault-bad_digit : (front : List ℕ) (byte : ℕ) (back : List ℕ) → AreDigits front → is_hex_digit byte ≡ false → (byte == 47) ≡ false
    → is_dot (front ++ byte ∷ back) ≡ false → fault_of (front ++ byte ∷ back) ≡ Some (BadDigit (length front))
fault-bad_digit front byte back s fails other dotless =
    let n : 0 + length front ≡ length front = omega arith in
    rw (dotless, digits_of-bad front byte back s other, bad_digit_at front byte (digits_of back) 0 s fails, n) refl

-- ---- digits alone, and a tail

-- the faults that are left
abbrev later_fault : List ℕ → Option ℕ → Option LineWhy
later_fault digits used = first_fault (bad_length digits used ∷ bad_fill digits used ∷ too_many_bits digits ∷ [])

fault-read : (digits : List ℕ) (tail : Option (List ℕ)) → AreDigits digits
    → fault_of (digits ++ tail_text tail) ≡ later_fault digits (bits_of_tail tail)
fault-read digits tail s =
    rw (is_dot-read digits tail s, digits_of-read digits tail s, tail_of-read digits tail s, no_bad_digit digits 0 s) refl

length_is_bad : (digits : List ℕ) (used : Option ℕ) → (length digits == 0 || length digits % 2 == 1 || is_none used) ≡ true
    → later_fault digits used ≡ Some BadLength
length_is_bad digits used h = rw h refl

pub fault-odd : (digits : List ℕ) (tail : Option (List ℕ)) (digit : ℕ) → AreDigits digits → waiting_value digits ≡ Some digit
    → fault_of (digits ++ tail_text tail) ≡ Some BadLength
fault-odd digits tail digit s waits =
    let odd : length digits % 2 ≡ 1 = omega (arith, length-octets_odd digits digit waits) in
    fault-read digits tail s
    ∙ length_is_bad digits (bits_of_tail tail)
    (or_left (length digits == 0 || length digits % 2 == 1) _ (or_right (length digits == 0) _ (eq-eqb _ _ odd)))

pub fault-no_octet : (digits : List ℕ) (tail : Option (List ℕ)) → AreDigits digits → waiting_value digits ≡ None
    → last_of (octets_of_digits digits) ≡ None → fault_of (digits ++ tail_text tail) ≡ Some BadLength
fault-no_octet digits tail s waits none =
    let empty = last_none (octets_of_digits digits) none in
    let n : length digits ≡ 0 = length-octets_even digits waits ∙ (rw empty refl) in
    fault-read digits tail s
    ∙ length_is_bad digits (bits_of_tail tail)
    (or_left (length digits == 0 || length digits % 2 == 1) _ (or_left (length digits == 0) _ (eq-eqb _ _ n)))

pub fault-tail : (digits : List ℕ) (tail : Option (List ℕ)) → AreDigits digits → bits_of_tail tail ≡ None
    → fault_of (digits ++ tail_text tail) ≡ Some BadLength
fault-tail digits tail s none =
    fault-read digits tail s
    ∙ length_is_bad digits (bits_of_tail tail)
    (or_right (length digits == 0 || length digits % 2 == 1) _ (rw none refl))

-- the digits make whole octets, the last of them has this value, and the tail counts its bits
pub record IsWhole (digits : List ℕ) (tail : Option (List ℕ)) (octet used : ℕ) : Type 0 where
  pub are_digits : AreDigits digits
  pub even : waiting_value digits ≡ None
  pub last : last_of (octets_of_digits digits) ≡ Some octet
  pub counts : bits_of_tail tail ≡ Some used
  pub some : 1 ≤ used
  pub few : used ≤ 8

-- digits of which nothing waits, where this was kept of them
pub whole_from : (digits : List ℕ) (tail : Option (List ℕ)) (octet used : ℕ) {waiting last counted : Option ℕ} → AreDigits digits
    → waiting ≡ waiting_value digits → last ≡ last_of (octets_of_digits digits) → counted ≡ bits_of_tail tail
    → waiting ≡ None → last ≡ Some octet → counted ≡ Some used → (1 ≤ used) × (used ≤ 8) → IsWhole digits tail octet used
whole_from digits tail octet used s w o u none some counts range = record {
  are_digits = s;
  even = sym w ∙ none;
  last = sym o ∙ some;
  counts = sym u ∙ counts;
  some = range.0;
  few = range.1;
}

-- the remainder that tells whether an unused bit is 1
pub unused_test : (octet used : ℕ) → 1 ≤ used → octet % (1 * 2 ^ (8 - used) % 256) ≡ octet % 2 ^ (8 - used)
unused_test octet used some =
    let small = power_small (8 - used) (omega arith) in
    let e : 1 * 2 ^ (8 - used) % 256 ≡ 2 ^ (8 - used) = omega arith in
    ap (λ (n : ℕ). octet % n) e

-- such digits of which no unused bit is 1
pub clear_from : (digits : List ℕ) (tail : Option (List ℕ)) (octet used : ℕ) {waiting last counted : Option ℕ} → AreDigits digits
    → waiting ≡ waiting_value digits → last ≡ last_of (octets_of_digits digits) → counted ≡ bits_of_tail tail
    → waiting ≡ None → last ≡ Some octet → counted ≡ Some used → (1 ≤ used) × (used ≤ 8)
    → octet % (1 * 2 ^ (8 - used) % 256) ≡ 0 → IsWhole digits tail octet used × (octet % 2 ^ (8 - used) ≡ 0)
clear_from digits tail octet used s w o u none some counts range zeros =
    (whole_from digits tail octet used s w o u none some counts range, sym (unused_test octet used range.0) ∙ zeros)

fault-whole : (digits : List ℕ) (tail : Option (List ℕ)) (octet used : ℕ) → IsWhole digits tail octet used
    → fault_of (digits ++ tail_text tail)
    ≡ first_fault (bad_fill digits (Some used) ∷ too_many_bits digits ∷ [])
fault-whole digits tail octet used w =
    let octets : List ℕ = octets_of_digits digits in
    let pairs = length-octets_even digits w.even in
    let one : length octets ≡ length (all_but_last octets) + 1 =
    ap length (last_parts octets octet w.last) ∙ length_push (all_but_last octets) octet in
    let some_digits : (length digits == 0) ≡ false = ne_eqb (length digits) 0 (λ e. omega arith) in
    let whole_octets : (length digits % 2 == 1) ≡ false = ne_eqb (length digits % 2) 1 (λ e. omega arith) in
    fault-read digits tail w.are_digits
    ∙ (rw (
      w.counts,
      or_from (length digits == 0 || length digits % 2 == 1) false
          (or_from (length digits == 0) (length digits % 2 == 1) some_digits whole_octets) refl,
    ) refl)

-- the unused bits of an octet are all 0 exactly where it is a multiple
unused_sum : (octet used : ℕ) → 1 ≤ used → used ≤ 8 → (octet % 2 ^ (8 - used) ≡ 0 → sum (unused_bits octet used) ≡ 0)
    × (0 < octet % 2 ^ (8 - used) → 0 < sum (unused_bits octet used))
unused_sum octet zero some few = absurd (omega arith)
unused_sum octet (suc zero) some few = (λ h. omega arith, λ h. omega arith)
unused_sum octet (suc (suc zero)) some few = (λ h. omega arith, λ h. omega arith)
unused_sum octet (suc (suc (suc zero))) some few = (λ h. omega arith, λ h. omega arith)
unused_sum octet (suc (suc (suc (suc zero)))) some few = (λ h. omega arith, λ h. omega arith)
unused_sum octet (suc (suc (suc (suc (suc zero))))) some few = (λ h. omega arith, λ h. omega arith)
unused_sum octet (suc (suc (suc (suc (suc (suc zero)))))) some few = (λ h. omega arith, λ h. omega arith)
unused_sum octet (suc (suc (suc (suc (suc (suc (suc zero))))))) some few = (λ h. omega arith, λ h. omega arith)
unused_sum octet (suc (suc (suc (suc (suc (suc (suc (suc zero)))))))) some few = (λ h. refl, λ h. absurd (omega arith))
unused_sum octet (suc (suc (suc (suc (suc (suc (suc (suc (suc n))))))))) some few = absurd (omega arith)

pub fault-fill : (digits : List ℕ) (tail : Option (List ℕ)) (octet used : ℕ) → IsWhole digits tail octet used
    → 0 < octet % 2 ^ (8 - used) → fault_of (digits ++ tail_text tail) ≡ Some BadFill
fault-fill digits tail octet used w h =
    let filled : nat_lt 0 (sum (unused_bits octet used)) ≡ true =
    lt-ltb 0 (sum (unused_bits octet used)) ((unused_sum octet used w.some w.few).1 h) in
    fault-whole digits tail octet used w ∙ (rw (w.last, filled) refl)

pub fault-many : (digits : List ℕ) (tail : Option (List ℕ)) (octet used : ℕ) → IsWhole digits tail octet used
    → octet % 2 ^ (8 - used) ≡ 0 → 131072 < length digits → fault_of (digits ++ tail_text tail) ≡ Some TooManyBits
fault-many digits tail octet used w h many =
    let zeros = (unused_sum octet used w.some w.few).0 h in
    let past : nat_lt 131072 (length digits) ≡ true = lt-ltb _ _ many in
    fault-whole digits tail octet used w ∙ (rw (w.last, zeros, past) refl)

pub fault-none : (digits : List ℕ) (tail : Option (List ℕ)) (octet used : ℕ) → IsWhole digits tail octet used
    → octet % 2 ^ (8 - used) ≡ 0 → length digits ≤ 131072 → fault_of (digits ++ tail_text tail) ≡ None
fault-none digits tail octet used w h fits =
    let zeros = (unused_sum octet used w.some w.few).0 h in
    let within : nat_lt 131072 (length digits) ≡ false = le-ltb _ _ fits in
    fault-whole digits tail octet used w ∙ (rw (w.last, zeros, within) refl)
