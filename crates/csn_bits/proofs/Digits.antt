-- Digits, and the octets of their pairs.
use Rattle.std.proofs.Common.{◌≡◌, ℕ, suc, ◌+◌, ◌-◌, ◌*◌, ◌<◌, ◌≤◌, ◌==◌, Bool, true, false, List, [], ◌∷◌, ◌++◌}
use Rattle.std.proofs.Common.{length, take, Some, None, refl, sym, ap, ◌∙◌, arith, append_assoc, length-append}
use Rattle.std.proofs.Common.{eqb-true, inl, inr}
use Rattle.std.proofs.lemmas.Bool.{cases_Bool}
use Rattle.std.proofs.lemmas.List.{take_at, take-append-le, take_all, length-take-le, length_push}
use Rattle.hex.specs.Hex.{is_hex_digit}
use Rattle.csn_bits.specs.Line.{last_of, octets_of_digits, value_of}
use Rattle.csn_bits.specs.Feed.{AreDigits, all_but_last, leading_digits, waiting_value}

-- a byte that a test tells from one that passes it
tells : (test : ℕ → Bool) (byte other : ℕ) → test byte ≡ true → test other ≡ false → (byte == other) ≡ false
tells test byte other passes fails = elim (cases_Bool (byte == other)) [
  | inl same ↦ (let e = eqb-true byte other same in absurd (let wrong : true ≡ false = sym passes ∙ ap test e ∙ fails in cc))
  | inr different ↦ different
]

-- a digit is no `/` and no `.`
pub digit_no_slash : (byte : ℕ) → is_hex_digit byte ≡ true → (byte == 47) ≡ false
digit_no_slash byte h = tells is_hex_digit byte 47 h refl

pub digit_no_dot : (byte : ℕ) → is_hex_digit byte ≡ true → (byte == 46) ≡ false
digit_no_dot byte h = tells is_hex_digit byte 46 h refl

pub AreDigits-push : (digits : List ℕ) (digit : ℕ) → AreDigits digits → is_hex_digit digit ≡ true → AreDigits (digits ++ digit ∷ [])
AreDigits-push [] digit s h = (h, tt)
AreDigits-push (d ∷ digits) digit s h = (s.0, AreDigits-push digits digit s.1 h)

-- ---- the last of a list

pub last_of-push : (xs : List ℕ) (x : ℕ) → last_of (xs ++ x ∷ []) ≡ Some x
last_of-push [] x = refl
last_of-push (a ∷ []) x = refl
last_of-push (a ∷ b ∷ rest) x = last_of-push (b ∷ rest) x

pub all_but_last-push : (xs : List ℕ) (x : ℕ) → all_but_last (xs ++ x ∷ []) ≡ xs
all_but_last-push xs x = take_at xs (x ∷ []) (length (xs ++ x ∷ []) - 1) (omega (arith, length_push xs x))

-- a list with a last element
pub last_parts : (xs : List ℕ) (x : ℕ) → last_of xs ≡ Some x → xs ≡ all_but_last xs ++ x ∷ []
last_parts [] x is = absurd (cc)
last_parts (a ∷ []) x is = (let e : a ≡ x = cc in ap (λ (b : ℕ). b ∷ []) e)
last_parts (a ∷ b ∷ rest) x is =
    let later = last_parts (b ∷ rest) x is in
    let n : length (a ∷ b ∷ rest) - 1 ≡ suc (length (b ∷ rest) - 1) = omega arith in
    rw n (ap (λ (l : List ℕ). a ∷ l) later)

pub last_none : (xs : List ℕ) → last_of xs ≡ None → xs ≡ []
last_none [] is = refl
last_none (a ∷ []) is = absurd (cc)
last_none (a ∷ b ∷ rest) is = (let e = last_none (b ∷ rest) is in absurd (cc))

-- ---- pairs

-- two digits to an octet
pub length-octets_even : (digits : List ℕ) → waiting_value digits ≡ None → length digits ≡ 2 * length (octets_of_digits digits)
length-octets_even [] none = refl
length-octets_even (d ∷ []) none = absurd (cc)
length-octets_even (h ∷ l ∷ rest) none = let later = length-octets_even rest none in omega (arith, later)

pub length-octets_odd : (digits : List ℕ) (digit : ℕ) → waiting_value digits ≡ Some digit → length digits ≡ 2 * length (octets_of_digits digits) + 1
length-octets_odd [] digit some = absurd (cc)
length-octets_odd (d ∷ []) digit some = refl
length-octets_odd (h ∷ l ∷ rest) digit some = let later = length-octets_odd rest digit some in omega (arith, later)

-- a digit more, which waits
pub waiting-push_first : (digits : List ℕ) (digit : ℕ) → waiting_value digits ≡ None
    → waiting_value (digits ++ digit ∷ []) ≡ Some (value_of digit)
waiting-push_first [] digit none = refl
waiting-push_first (d ∷ []) digit none = absurd (cc)
waiting-push_first (h ∷ l ∷ rest) digit none = waiting-push_first rest digit none

pub octets-push_first : (digits : List ℕ) (digit : ℕ) → waiting_value digits ≡ None → octets_of_digits (digits ++ digit ∷ []) ≡ octets_of_digits digits
octets-push_first [] digit none = refl
octets-push_first (d ∷ []) digit none = absurd (cc)
octets-push_first (h ∷ l ∷ rest) digit none =
    ap (λ (os : List ℕ). (16 * value_of h + value_of l) ∷ os) (octets-push_first rest digit none)

-- a digit more, which ends a pair
pub waiting-push_second : (digits : List ℕ) (high digit : ℕ) → waiting_value digits ≡ Some high → waiting_value (digits ++ digit ∷ []) ≡ None
waiting-push_second [] high digit some = absurd (cc)
waiting-push_second (d ∷ []) high digit some = refl
waiting-push_second (h ∷ l ∷ rest) high digit some = waiting-push_second rest high digit some

pub octets-push_second : (digits : List ℕ) (high digit : ℕ) → waiting_value digits ≡ Some high
    → octets_of_digits (digits ++ digit ∷ []) ≡ octets_of_digits digits ++ (16 * high + value_of digit) ∷ []
octets-push_second [] high digit some = absurd (cc)
octets-push_second (d ∷ []) high digit some =
    (let e : value_of d ≡ high = cc in ap (λ (n : ℕ). (16 * n + value_of digit) ∷ []) e)
octets-push_second (h ∷ l ∷ rest) high digit some =
    ap (λ (os : List ℕ). (16 * value_of h + value_of l) ∷ os) (octets-push_second rest high digit some)

-- ---- more digits behind whole pairs

pub AreDigits-append : (digits more : List ℕ) → AreDigits digits → AreDigits more → AreDigits (digits ++ more)
AreDigits-append [] more s t = t
AreDigits-append (d ∷ digits) more s t = (s.0, AreDigits-append digits more s.1 t)

pub waiting-append : (digits more : List ℕ) → waiting_value digits ≡ None → waiting_value (digits ++ more) ≡ waiting_value more
waiting-append [] more none = refl
waiting-append (d ∷ []) more none = absurd (cc)
waiting-append (h ∷ l ∷ rest) more none = waiting-append rest more none

pub octets-append : (digits more : List ℕ) → waiting_value digits ≡ None
    → octets_of_digits (digits ++ more) ≡ octets_of_digits digits ++ octets_of_digits more
octets-append [] more none = refl
octets-append (d ∷ []) more none = absurd (cc)
octets-append (h ∷ l ∷ rest) more none =
    ap (λ (os : List ℕ). (16 * value_of h + value_of l) ∷ os) (octets-append rest more none)

pub last_of-append : (xs ys : List ℕ) (x : ℕ) → last_of ys ≡ Some x → last_of (xs ++ ys) ≡ Some x
last_of-append [] ys x is = is
last_of-append (a ∷ []) [] x is = absurd (cc)
last_of-append (a ∷ []) (b ∷ ys) x is = is
last_of-append (a ∷ b ∷ rest) ys x is = last_of-append (b ∷ rest) ys x is

all_but_last-append : (xs : List ℕ) (y : ℕ) (ys : List ℕ) → all_but_last (xs ++ y ∷ ys) ≡ xs ++ all_but_last (y ∷ ys)
all_but_last-append [] y ys = refl
all_but_last-append (x ∷ xs) y ys =
    let later = all_but_last-append xs y ys in
    let n : length (x ∷ xs ++ y ∷ ys) - 1 ≡ suc (length (xs ++ y ∷ ys) - 1) = omega (arith, length-append xs (y ∷ ys)) in
    rw n (ap (λ (l : List ℕ). x ∷ l) later)

-- what more octets give behind others: the octet that was the last, and then they but for their last
pub given-append : (octets more : List ℕ) → 1 ≤ length more → length octets + length more ≤ 65536
    → take 65536 (all_but_last (octets ++ more)) ≡ octets ++ all_but_last more
given-append octets [] some fits = absurd (omega arith)
given-append octets (y ∷ ys) some fits =
    let count = length-append octets (all_but_last (y ∷ ys)) in
    let fewer = length-take-le (length (y ∷ ys) - 1) (y ∷ ys) (omega arith) in
    ap (take 65536) (all_but_last-append octets y ys)
    ∙ take_all 65536 (octets ++ all_but_last (y ∷ ys)) (omega (arith, count, fewer))

pub given-behind : (octets : List ℕ) (last : ℕ) (more : List ℕ) → last_of octets ≡ Some last → length octets ≤ 65536
    → octets ++ more ≡ take 65536 (all_but_last octets) ++ last ∷ more
given-behind octets last more is fits =
    let parts = last_parts octets last is in
    let front : List ℕ = all_but_last octets in
    let n : length octets ≡ length front + 1 = ap length parts ∙ length_push front last in
    let short : take 65536 front ≡ front = take_all 65536 front (omega arith) in
    ap (λ (l : List ℕ). l ++ more) parts ∙ append_assoc front (last ∷ []) more ∙ ap (λ (l : List ℕ). l ++ last ∷ more) (sym short)

-- ---- what a feed gives

pub leading-all : (digits : List ℕ) → AreDigits digits → leading_digits digits ≡ digits
leading-all [] s = refl
leading-all (d ∷ digits) s = rw s.0 (ap (λ (l : List ℕ). d ∷ l) (leading-all digits s.1))

pub leading-stop : (digits : List ℕ) (byte : ℕ) (back : List ℕ) → AreDigits digits → is_hex_digit byte ≡ false
    → leading_digits (digits ++ byte ∷ back) ≡ digits
leading-stop [] byte back s fails = rw fails refl
leading-stop (d ∷ digits) byte back s fails =
    rw s.0 (ap (λ (l : List ℕ). d ∷ l) (leading-stop digits byte back s.1 fails))

-- the octets of digits alone that are given
given : List ℕ → List ℕ
given octets = take 65536 (all_but_last octets)

-- a pair more gives the octet that was the last, where there is room for it
pub given-push : (octets : List ℕ) (octet last : ℕ) → last_of octets ≡ Some last → length octets ≤ 65536
    → take 65536 (all_but_last (octets ++ octet ∷ [])) ≡ take 65536 (all_but_last octets) ++ last ∷ []
given-push octets octet last is room =
    let parts = last_parts octets last is in
    let front : List ℕ = all_but_last octets in
    let n : length octets ≡ length front + 1 = ap length parts ∙ length_push front last in
    let short : take 65536 front ≡ front = take_all 65536 front (omega arith) in
    let all : take 65536 octets ≡ octets = take_all 65536 octets room in
    rw (all_but_last-push octets octet, all, short) parts

pub given-push_full : (octets : List ℕ) (octet last : ℕ) → last_of octets ≡ Some last → 65536 < length octets
    → take 65536 (all_but_last (octets ++ octet ∷ [])) ≡ take 65536 (all_but_last octets)
given-push_full octets octet last is full =
    let parts = last_parts octets last is in
    let front : List ℕ = all_but_last octets in
    let n : length octets ≡ length front + 1 = ap length parts ∙ length_push front last in
    let cut : take 65536 (front ++ last ∷ []) ≡ take 65536 front = take-append-le 65536 front (last ∷ []) (omega arith) in
    rw (all_but_last-push octets octet) (ap (take 65536) parts ∙ cut)
