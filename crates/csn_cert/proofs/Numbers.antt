-- Binary digits in front of texts.
use Rattle.std.proofs.Common.{◌≡◌, ℕ, suc, ◌+◌, ◌*◌, ◌/◌, ◌%◌, ◌^◌, ◌<◌, ◌≤◌, List, [], ◌∷◌, ◌++◌, length, map, refl, sym, ap, ◌∙◌, arith, append_assoc}
use Rattle.std.proofs.lemmas.List.{length-map}
use Rattle.std.proofs.Math.Nat.{pow-suc}
use Rattle.csn_bits.specs.Octets.{IsBits}
use Rattle.csn_bits.specs.Numbers.{low_bits, number_of}
use Rattle.csn_bits.proofs.NumberFacts.{low_bits-push, length-low_bits, IsBits-low_bits, number_of-low_bits_small}
use Rattle.csn_cert.specs.CertificateText.{digits_text}
use Rattle.csn_cert.specs.Reading.{IsNumber, number_text, IsOctet, octet_text}
use Rattle.csn_cert.proofs.Fronts.{Tells, tails, front_same, behind_same}

pub length-digits_text : (count number : ℕ) → length (digits_text count number) ≡ count
length-digits_text count number = length-map (low_bits count number) (λ bit. 48 + bit) ∙ length-low_bits count number

digits_same : (xs ys : List ℕ) → map (λ bit. 48 + bit) xs ≡ map (λ bit. 48 + bit) ys → xs ≡ ys
digits_same [] [] same = refl
digits_same [] (y ∷ ys) same = absurd (cc)
digits_same (x ∷ xs) [] same = absurd (cc)
digits_same (x ∷ xs) (y ∷ ys) same =
    let head : 48 + x ≡ 48 + y = cc in
    let first : x ≡ y = omega arith in
    let others : map (λ bit. 48 + bit) xs ≡ map (λ bit. 48 + bit) ys = cc in
    let rest : xs ≡ ys = digits_same xs ys others in
    cc

pub number_tells : (count : ℕ) → Tells (IsNumber count) (number_text count)
number_tells count m n a b small small' same =
    let digits : digits_text count m ++ a ≡ digits_text count n ++ b = tails 32 32 (digits_text count m ++ a) (digits_text count n ++ b) same in
    let long : length (digits_text count m) ≡ length (digits_text count n) = length-digits_text count m ∙ sym (length-digits_text count n) in
    let bits : low_bits count m ≡ low_bits count n = digits_same (low_bits count m) (low_bits count n)
    (front_same (digits_text count m) (digits_text count n) a b long digits) in (
      sym (number_of-low_bits_small count m small) ∙ ap number_of bits ∙ number_of-low_bits_small count n small',
      behind_same (digits_text count m) (digits_text count n) a b long digits,
    )

pub octet_tells : Tells IsOctet octet_text
octet_tells m n a b is is' same =
    let head : 48 + m ≡ 48 + n = cc in
    let rest : a ≡ b = cc in
    (omega arith, rest)

-- ---- as they are read

-- one digit more
pub digits_more : (text rest after : List ℕ) (count number bit : ℕ)
    → bit ≤ 1 → text ≡ digits_text count number ++ rest → rest ≡ (48 + bit) ∷ after → text ≡ digits_text (suc count)
    (2 * number + bit) ++ after
digits_more text rest after count number bit is read next =
    let half : (2 * number + bit) / 2 ≡ number = omega arith in
    let last : (2 * number + bit) % 2 ≡ bit = omega arith in
    let pushed : digits_text (suc count) (2 * number + bit) ≡ digits_text count number ++ (48 + bit) ∷ [] =
    ap (map (λ b. 48 + b)) (low_bits-push count (2 * number + bit)
    ∙ ap (λ n. low_bits count n ++ (2 * number + bit) % 2 ∷ []) half ∙ ap (λ d. low_bits count number ++ d ∷ [])
    last)
    ∙ map_push (low_bits count number) bit in
    read ∙ ap (λ l. digits_text count number ++ l) next
    ∙ sym (append_assoc (digits_text count number) ((48 + bit) ∷ []) after) ∙ ap (λ l. l ++ after) (sym pushed)
  where
    map_push : (bits : List ℕ) (bit : ℕ) → map (λ b. 48 + b) (bits ++ bit ∷ []) ≡ map (λ b. 48 + b) bits ++ (48 + bit) ∷ []
    map_push [] bit = refl
    map_push (b ∷ bits) bit = ap (λ l. (48 + b) ∷ l) (map_push bits bit)

pub number_grows : (count number bit : ℕ) → bit ≤ 1 → number < 2 ^ count → 2 * number + bit < 2 ^ suc count
number_grows count number bit is small = rw (pow-suc 2 count) (omega arith)

-- a text that is cut within binary digits goes on with one
pub record DigitStands (rest : List ℕ) : Type 0 where
  pub bit : ℕ
  pub after : List ℕ
  pub is : bit ≤ 1
  pub spelled : rest ≡ (48 + bit) ∷ after

within_digits : (bits front rest behind : List ℕ) → IsBits bits → length front < length bits
    → front ++ rest ≡ map (λ b. 48 + b) bits ++ behind → DigitStands rest
within_digits [] front rest behind is more same = absurd (omega arith)
within_digits (b ∷ bits) [] rest behind is more same = record { bit = b; after = map (λ d. 48 + d) bits ++ behind; is = omega (arith, is.0); spelled = same }
within_digits (b ∷ bits) (f ∷ front) rest behind is more same =
    within_digits bits front rest behind is.1 (omega arith) (tails f (48 + b) (front ++ rest) (map (λ d. 48 + d) bits ++ behind) same)

pub digit_next : (count done number whole : ℕ) (text rest behind : List ℕ)
    → done < count → text ≡ digits_text done number ++ rest → text ≡ digits_text count whole ++ behind
    → DigitStands rest
digit_next count done number whole text rest behind more read same =
    within_digits (low_bits count whole) (digits_text done number) rest behind (IsBits-low_bits count whole)
    (omega (arith, length-digits_text done number, length-low_bits count whole)) (sym read ∙ same)
