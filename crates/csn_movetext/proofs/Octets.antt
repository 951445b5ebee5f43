-- Bits of an open leaf that are written as octets.
use Rattle.std.proofs.Common.{◌≡◌, ℕ, ◌+◌, ◌-◌, ◌*◌, ◌/◌, ◌%◌, ◌^◌, ◌<◌, List, [], ◌∷◌, ◌++◌, length, drop, set}
use Rattle.std.proofs.Common.{slice_index, refl, sym, ap, ◌∙◌, arith, append_assoc, append-nil, length-set}
use Rattle.std.specs.Prelude.{Result, Ok, Err, OnOk}
use Rattle.std.proofs.lemmas.List.{drop-set}
use Rattle.hex.specs.Hex.{upper_digits, encode_upper, encode_with}
use Rattle.csn_bits.specs.Octets.{IsBits, octets_of}
use Rattle.csn_bits.specs.Numbers.{number_of, low_bits}
use Rattle.csn_bits.proofs.Packing.{octets_of-append}
use Rattle.csn_bits.proofs.NumberFacts.{number_of-octet, number_of-low_bits, length-low_bits, IsBits-low_bits, low_bits-split, low_bits-number_of}
use Rattle.csn_movetext.specs.Kept.{Flushed, Extends}

-- the octet of the last eight bits of a number
pub low_octet : (v : ℕ) → octets_of (low_bits 8 v) ≡ v % 256 ∷ []
low_octet v =
    ap (λ n. n ∷ [])
    (sym (number_of-octet (v / 2 ^ 7 % 2) (v / 2 ^ 6 % 2) (v / 2 ^ 5 % 2) (v / 2 ^ 4 % 2) (v / 2 ^ 3 % 2) (v / 2 ^ 2 % 2) (v / 2 ^ 1 % 2) (v / 2 ^ 0 % 2))
    ∙ number_of-low_bits 8 v)

-- the digits of one octet more, before those of the last ones
octet_before :
    (number k : ℕ) → encode_upper (octets_of (low_bits (8 * (k + 1)) number))
    ≡ slice_index upper_digits (number / 2 ^ (8 * k) % 256 / 16) ∷ slice_index upper_digits
    (number / 2 ^ (8 * k) % 256 % 16) ∷ encode_upper (octets_of (low_bits (8 * k) number))
unfolding encode_with
octet_before number k =
    let v : ℕ = number / 2 ^ (8 * k) in
    let last : List ℕ = low_bits (8 * k) number in
    let more : 8 * (k + 1) ≡ 8 + 8 * k = omega arith in
    ap (λ n. encode_upper (octets_of (low_bits n number))) more
    ∙ ap (λ l. encode_upper (octets_of l)) (low_bits-split 8 (8 * k) number)
    ∙ ap encode_upper (octets_of-append (low_bits 8 v) last refl)
    ∙ ap (λ l. encode_upper (l ++ octets_of last)) (low_octet v)

pub no_digits : [] ≡ encode_upper []
unfolding encode_with
no_digits = refl

pub digits_before :
    (number k first octet low high : ℕ) (digits : List ℕ) → length digits ≡ 16 → first + 2 * k ≡ 16 → k < 8
    → octet ≡ number / 2 ^ (8 * k) % 256 → low ≡ slice_index upper_digits (octet % 16) → high ≡ slice_index upper_digits (octet / 16)
    → drop first digits ≡ encode_upper (octets_of (low_bits (8 * k) number))
    → drop (first - 2) (set (set digits (first - 2 + 1) low) (first - 2) high) ≡ encode_upper (octets_of (low_bits (8 * (k + 1)) number))
digits_before number k first octet low high digits long at few is low_is high_is last =
    let here : first - 2 + 1 + 1 ≡ first = omega (arith, at, few) in
    drop-set (set digits (first - 2 + 1) low) (first - 2) high (omega (arith, at, few, long, length-set digits (first - 2 + 1) low))
    ∙ ap (λ l. high ∷ l) (drop-set digits (first - 2 + 1) low (omega (arith, at, few, long)))
    ∙ ap (λ n. high ∷ low ∷ drop n digits) here
    ∙ ap (λ l. high ∷ low ∷ l) last
    ∙ ap (λ n. n ∷ low ∷ encode_upper (octets_of (low_bits (8 * k) number))) (high_is ∙ ap (λ n. slice_index upper_digits (n / 16)) is)
    ∙ ap (λ n. slice_index upper_digits (number / 2 ^ (8 * k) % 256 / 16) ∷ n ∷ encode_upper
    (octets_of (low_bits (8 * k) number))) (low_is ∙ ap (λ n. slice_index upper_digits (n % 16)) is)
    ∙ sym (octet_before number k)

-- held bits whose whole octets are written
pub flushed :
    {before out : List ℕ} {held bits : ℕ} → out ≡ before ++ encode_upper (octets_of (low_bits (8 * (held / 8)) (bits / 2 ^ (held % 8))))
    → (b : List ℕ) → IsBits b → length b ≡ held → number_of b ≡ bits → Flushed before out b (held % 8) (bits % 2 ^ (held % 8))
flushed {held = held} {bits = bits} is b are long number =
    let first : ℕ = 8 * (held / 8) in
    let last : ℕ = held % 8 in
    let parts : length b ≡ first + last = omega (arith, long) in
    record {
      front = low_bits first (bits / 2 ^ last);
      back = low_bits last bits;
      cut =
          sym (low_bits-number_of b are) ∙ ap (λ n. low_bits n (number_of b)) parts ∙ ap (λ n. low_bits (first + last) n) number
          ∙ low_bits-split first last bits;
      octets = omega (arith, length-low_bits first (bits / 2 ^ last));
      written = is;
      count = sym (length-low_bits last bits);
      number = sym (number_of-low_bits last bits);
      front_bits = IsBits-low_bits first (bits / 2 ^ last);
      back_bits = IsBits-low_bits last bits;
    }

pub extends_then : (a b c : List ℕ) → Extends a b → Extends b c → Extends a c
extends_then a b c first next = (first.0 ++ next.0, next.1 ∙ ap (λ l. l ++ next.0) first.1 ∙ append_assoc a first.0 next.0)

pub extends_none : (a b : List ℕ) → b ≡ a → Extends a b
extends_none a b same = ([], same ∙ sym (append-nil a))

-- what a call makes true where it succeeds
pub on_ok : {A E P Q : Type 0} (r : Result A E) → (P → Q) → OnOk r P → OnOk r Q
on_ok (Ok a) by h = by h
on_ok (Err e) by h = tt
