-- Leaves that are written as block lines.
use Rattle.std.proofs.Common.{◌≡◌, ℕ, zero, suc, ◌+◌, ◌-◌, ◌*◌, ◌/◌, ◌%◌, ◌^◌, ◌<◌, ◌≤◌, ◌==◌, nat_le, nat_lt, Bool}
use Rattle.std.proofs.Common.{true, false, ◌&&◌, List, [], ◌∷◌, ◌++◌, length, take, slice_index, Option, Some, None}
use Rattle.std.proofs.Common.{unwrap_or, refl, sym, ap, ◌∙◌, arith, inl, inr, eqb-true}
use Rattle.std.proofs.Common.{slice_get}
use Rattle.std.proofs.lemmas.Bool.{agree_below, agree_below_at, cases_lt, and_parts, ltb-true, lt-leb}
use Rattle.std.specs.Prelude.{if◌then◌else◌}
use Rattle.std.proofs.lemmas.List.{length-take-le}
use Rattle.csn_treetext.specs.declared.bounds.TheConstants.{MOST_SHORT, MOST_OCTETS}
use Rattle.hex.specs.Hex.{encode_upper, encode_with, upper_digits}
use Rattle.csn_bits.specs.Octets.{IsBits, IsPacked, bits_of_octet, bits_of_octets, octets_of, octet_of}
use Rattle.csn_bits.specs.Line.{last_of, tail_written, written}
use Rattle.csn_bits.proofs.Packing.{IsBits-bits_of_octets, IsBits-take, length-bits_of_octets, octet_of-bits_of_octet}
use Rattle.csn_bits.proofs.Packing.{take-bits_of_octets-octets_of, length-octets_of, octets_of-small}
use Rattle.csn_bits.proofs.Written.{written-packed}
use Rattle.csn_treetext.specs.declared.version.Version.TheVariants.{Second}
use Rattle.csn_treetext.specs.Text.{leaf_text, is_short, other_text}
use Rattle.csn_treetext.specs.reader.Machine.{AreOctets, last_octet, upper_value}

-- ---- the last octet

pub last_of-slice_get : (xs : List ℕ) → last_of xs ≡ slice_get xs (length xs - 1)
last_of-slice_get [] = refl
last_of-slice_get (x ∷ []) = refl
last_of-slice_get (x ∷ y ∷ rest) =
    let count : suc (suc (length rest)) - 1 ≡ suc (suc (length rest) - 1) = omega arith in
    rw count (last_of-slice_get (y ∷ rest))

last_of-cons : (x : ℕ) (xs : List ℕ) → 0 < length xs → last_of (x ∷ xs) ≡ last_of xs
last_of-cons x [] some = absurd (omega arith)
last_of-cons x (y ∷ xs) some = refl

-- ---- digits

there : Option ℕ → ℕ → Bool
there None v = false
there (Some w) v = w == v

goes : ℕ → Bool
goes v = there (upper_value (slice_index upper_digits v)) v

there-some : (o : Option ℕ) (v : ℕ) → there o v ≡ true → o ≡ Some v
unfolding there
there-some None v h = absurd (cc)
there-some (Some w) v h = ap Some (eqb-true w v h)

all_go : agree_below goes (λ _. true) 16 ≡ true
unfolding goes there
all_go = refl

-- the digit of a value has this value
pub upper_value-digit : (v : ℕ) → v < 16 → upper_value (slice_index upper_digits v) ≡ Some v
unfolding goes
upper_value-digit v small = there-some (upper_value (slice_index upper_digits v)) v (agree_below_at goes (λ _. true) 16 v all_go small)

spelled : Option ℕ → ℕ → Bool
spelled None byte = true
spelled (Some v) byte = nat_lt v 16 && slice_index upper_digits v == byte

spelled_by : ℕ → Bool
spelled_by byte = spelled (upper_value byte) byte

all_spelled : agree_below spelled_by (λ _. true) 71 ≡ true
unfolding spelled_by spelled
all_spelled = refl

upper_value-past : (byte : ℕ) → 71 ≤ byte → upper_value byte ≡ None
upper_value-past byte high =
    let one : nat_le byte 57 ≡ false = lt-leb byte 57 (omega arith) in
    let two : nat_le byte 70 ≡ false = lt-leb byte 70 (omega arith) in
    rw (one, two) (drop_tests (nat_le 48 byte) (nat_le 65 byte) (byte - 48) (byte - 55))
  where
    drop_tests : (a b : Bool) (m n : ℕ) → (if a && false then Some m else if b && false then Some n else None) ≡ None
    drop_tests false false m n = refl
    drop_tests false true m n = refl
    drop_tests true false m n = refl
    drop_tests true true m n = refl

-- a byte with a value is the digit of the value
pub digit-upper_value : (byte v : ℕ) → upper_value byte ≡ Some v → (v < 16) × (slice_index upper_digits v ≡ byte)
unfolding spelled_by spelled
digit-upper_value byte v h = elim (cases_lt byte 71) [
  | inl low ↦ (
      let all = agree_below_at spelled_by (λ _. true) 71 byte all_spelled low in
      let here : nat_lt v 16 && slice_index upper_digits v == byte ≡ true = ap (λ o. spelled o byte) (sym h) ∙ all in
      let (small, same) = and_parts (nat_lt v 16) (slice_index upper_digits v == byte) here in
      (ltb-true _ _ small, eqb-true _ _ same))
  | inr high ↦ (let e = upper_value-past byte (omega arith) in absurd (let z : None ≡ Some v = sym e ∙ h in cc))
]

pub encode_upper-push : (octets : List ℕ) (octet : ℕ)
    → encode_upper (octets ++ octet ∷ []) ≡ encode_upper octets ++ slice_index upper_digits (octet / 16)
    ∷ slice_index upper_digits (octet % 16) ∷ []
unfolding encode_with
encode_upper-push [] octet = refl
encode_upper-push (o ∷ octets) octet = ap (λ l. slice_index upper_digits (o / 16) ∷ slice_index upper_digits (o % 16) ∷ l) (encode_upper-push octets octet)

pub encode_upper-cons : (octet : ℕ) (octets : List ℕ)
    → encode_upper (octet ∷ octets) ≡ slice_index upper_digits (octet / 16) ∷ slice_index upper_digits (octet % 16)
    ∷ encode_upper octets
unfolding encode_with
encode_upper-cons octet octets = refl

-- ---- octets, all of them or all but some bits of the last

octets_of-one : (octet used : ℕ) → 1 ≤ used → used ≤ 8 → octet % 2 ^ (8 - used) ≡ 0 → octets_of (take used (bits_of_octet octet)) ≡ octet ∷ []
octets_of-one octet zero some few h = absurd (omega arith)
octets_of-one octet (suc (suc (suc (suc (suc (suc (suc (suc (suc n))))))))) some few h = absurd (omega arith)
octets_of-one octet used some few h = ap (λ (m : ℕ). m ∷ []) (omega arith)

octets_of-cut : (octets : List ℕ) (used n : ℕ) → 1 ≤ used → used ≤ 8 → 1 ≤ length octets
    → last_octet octets % 2 ^ (8 - used) ≡ 0 → n + 8 ≡ 8 * length octets + used
    → octets_of (take n (bits_of_octets octets)) ≡ octets
octets_of-cut [] used n some few more zeros count = absurd (omega arith)
octets_of-cut (o ∷ []) used n some few more zeros count =
    let is : n ≡ used = omega arith in
    rw is (octets_of-one o used some few zeros)
octets_of-cut (o ∷ p ∷ rest) used (suc (suc (suc (suc (suc (suc (suc (suc n)))))))) some few more zeros count =
    ap (λ (m : ℕ). m ∷ octets_of (take n (bits_of_octets (p ∷ rest)))) (octet_of-bits_of_octet o)
    ∙ ap (λ (l : List ℕ). o ∷ l) (octets_of-cut (p ∷ rest) used n some few (omega arith) zeros (omega arith))
octets_of-cut (o ∷ p ∷ rest) used n some few more zeros count = absurd (omega arith)

-- how many bits belong to a leaf of octets
abbrev pub cut_length : List ℕ → ℕ → ℕ
cut_length octets used = 8 * length octets - 8 + used

abbrev pub cut_bits : List ℕ → ℕ → List ℕ
cut_bits octets used = take (cut_length octets used) (bits_of_octets octets)

pub length-cut_bits : (octets : List ℕ) (used : ℕ) → 1 ≤ length octets → used ≤ 8 → length (cut_bits octets used) ≡ cut_length octets used
length-cut_bits octets used some few = length-take-le (cut_length octets used) (bits_of_octets octets) (omega (arith, length-bits_of_octets octets))

pub IsBits-cut_bits : (octets : List ℕ) (used : ℕ) → AreOctets octets → IsBits (cut_bits octets used)
IsBits-cut_bits octets used are = IsBits-take (cut_length octets used) (bits_of_octets octets) (IsBits-bits_of_octets octets are)

other_text-some : (b : List ℕ) → 1 ≤ length b → other_text Second b ≡ 120 ∷ written b
other_text-some [] some = absurd (omega arith)
other_text-some (x ∷ b) some = refl

pub long_is_other : (b : List ℕ) → 65 ≤ length b → is_short b ≡ false
long_is_other b long =
    let high : nat_le (length b) MOST_SHORT ≡ false = lt-leb (length b) MOST_SHORT (omega arith) in
    rw high (and_false (nat_le 1 (length b)))
  where
    and_false : (a : Bool) → a && false ≡ false
    and_false true = refl
    and_false false = refl

pub long_text : (b : List ℕ) → 65 ≤ length b → leaf_text Second b ≡ 120 ∷ written b
long_text b long = rw (long_is_other b long) (other_text-some b (omega arith))

-- the text of a leaf of octets
pub cut_text : (octets : List ℕ) (used : ℕ) → AreOctets octets → 9 ≤ length octets → length octets ≤ MOST_OCTETS → 1 ≤ used → used ≤ 8
    → last_octet octets % 2 ^ (8 - used) ≡ 0 → leaf_text Second (cut_bits octets used) ≡ 120 ∷ (encode_upper octets ++ tail_written (used % 8))
cut_text octets used are many few some most zeros =
    let n : ℕ = cut_length octets used in
    let long = length-cut_bits octets used (omega arith) most in
    let packed : IsPacked octets n = record {
      few = omega arith;
      bits = IsBits-cut_bits octets used are;
      within = omega arith;
      exact = sym (octets_of-cut octets used n some most (omega arith) zeros (omega arith));
    } in
    let rest : n % 8 ≡ used % 8 = omega arith in
    long_text (cut_bits octets used) (omega arith)
    ∙ ap (λ l. 120 ∷ l) (written-packed octets n packed (omega arith) ∙ ap (λ k. encode_upper octets ++ tail_written k) rest)

-- ---- the octets of a long leaf

pub AreOctets-octets_of : (b : List ℕ) → IsBits b → AreOctets (octets_of b)
AreOctets-octets_of b are k = octets_of-small b k are

-- how many bits of the last octet belong to some bits
abbrev pub used_of : List ℕ → ℕ
used_of b = (length b + 7) % 8 + 1

pub cut-octets_of : (b : List ℕ) → IsBits b → 1 ≤ length b → cut_bits (octets_of b) (used_of b) ≡ b
cut-octets_of b are some =
    let count = length-octets_of b in
    let is : cut_length (octets_of b) (used_of b) ≡ length b = omega arith in
    ap (λ n. take n (bits_of_octets (octets_of b))) is ∙ take-bits_of_octets-octets_of b are

pub last_unused : (b : List ℕ) → 1 ≤ length b → last_octet (octets_of b) % 2 ^ (8 - used_of b) ≡ 0
last_unused [] some = absurd (omega arith)
last_unused (a ∷ b ∷ c ∷ d ∷ e ∷ f ∷ g ∷ h ∷ []) some = omega arith
last_unused (a ∷ b ∷ c ∷ d ∷ e ∷ f ∷ g ∷ h ∷ i ∷ rest) some =
    let inner = last_unused (i ∷ rest) (omega arith) in
    let count = length-octets_of (i ∷ rest) in
    let same : used_of (a ∷ b ∷ c ∷ d ∷ e ∷ f ∷ g ∷ h ∷ i ∷ rest) ≡ used_of (i ∷ rest) = omega arith in
    let last : last_octet (octets_of (a ∷ b ∷ c ∷ d ∷ e ∷ f ∷ g ∷ h ∷ i ∷ rest)) ≡ last_octet (octets_of (i ∷ rest)) =
    ap (λ o. unwrap_or o 0) (last_of-cons (octet_of (a ∷ b ∷ c ∷ d ∷ e ∷ f ∷ g ∷ h ∷ [])) (octets_of (i ∷ rest)) (omega arith)) in
    rw (last, same) inner
last_unused few some = omega arith
