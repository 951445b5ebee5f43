-- Bits of numbers.
use Rattle.std.proofs.Common.{◌≡◌, ℕ, ◌+◌, ◌-◌, ◌*◌, ◌/◌, ◌%◌, ◌^◌, ◌<◌, ◌≤◌, min, List, [], ◌∷◌, ◌++◌, length, take}
use Rattle.std.proofs.Common.{drop, get_or, refl, sym, ap, ◌∙◌, arith, length-append, length-drop, take-append-drop}
use Rattle.std.proofs.Common.{append_assoc, ◌⊎◌, inl, inr}
use Rattle.std.specs.Int.Bits.{bit_or}
use Rattle.std.proofs.Math.Nat.{mod-eq_of_lt}
use Rattle.std.proofs.Math.Seq.{take-append-add}
use Rattle.std.proofs.lemmas.Bool.{cases_lt}
use Rattle.std.proofs.lemmas.Nat.{shr-shr, shr_below}
use Rattle.std.proofs.lemmas.List.{take_at, drop_at, drop_more, drop-drop, get_or-drop, length-take-le}
use Rattle.csn_judge.specs.Coming.{AreOctets, bits_from}
use Rattle.csn_bits.specs.Octets.{IsBits, bits_of_octet, bits_of_octets}
use Rattle.csn_bits.specs.Numbers.{number_of, low_bits}
use Rattle.csn_bits.proofs.NumberFacts.{length-low_bits, IsBits-low_bits, number_of-low_bits, low_bits-split}
use Rattle.csn_bits.proofs.NumberFacts.{low_bits-masked, masked_small, low_bits-first, low_bits-shifted}
use Rattle.csn_bits.proofs.NumberFacts.{low_bits-octet}
use Rattle.csn_bits.proofs.Packing.{IsBits-append, IsBits-bits_of_octets, IsBits-take, length-bits_of_octets, drop-bits_of_octets, bits_of_octets-append}

-- ---- what the source does with its buffer

pub take_front : (xs ys zs : List ℕ) (n : ℕ) → length xs ≡ n → take n ((xs ++ ys) ++ zs) ≡ xs
take_front xs ys zs n long = rw (append_assoc xs ys zs) (take_at xs (ys ++ zs) n long)

drop_front : (xs ys zs : List ℕ) (n : ℕ) → length xs ≡ n → drop n ((xs ++ ys) ++ zs) ≡ ys ++ zs
drop_front xs ys zs n long = rw (append_assoc xs ys zs) (drop_at xs (ys ++ zs) n long)

-- what a peek answers
pub peeked_bits : (have buf n : ℕ) (more : List ℕ) → n ≤ have → n < 64
    → low_bits n (buf / 2 ^ (have - n) % (1 * 2 ^ n % 2 ^ 64)) ≡ take n (low_bits have buf ++ more)
peeked_bits have buf n more few short =
    let v : ℕ = buf / 2 ^ (have - n) in
    low_bits-masked n v short
    ∙ sym (ap (λ (l : List ℕ). take n (l ++ more)) (low_bits-first have buf n few)
    ∙ take_front (low_bits n v) (low_bits (have - n) buf) more n (length-low_bits n v))

pub peeked : (have buf n : ℕ) (more : List ℕ) → n ≤ have → n < 64
    → buf / 2 ^ (have - n) % (1 * 2 ^ n % 2 ^ 64) ≡ number_of (take n (low_bits have buf ++ more))
peeked have buf n more few short =
    let r : ℕ = buf / 2 ^ (have - n) % (1 * 2 ^ n % 2 ^ 64) in
    sym (ap (λ (l : List ℕ). number_of l) (sym (peeked_bits have buf n more few short)) ∙ number_of-low_bits n r
    ∙ mod-eq_of_lt (masked_small (buf / 2 ^ (have - n)) n short))

-- what a take leaves
pub left_over : (have buf n : ℕ) (more : List ℕ) → n ≤ have → low_bits (have - n) buf ++ more ≡ drop n (low_bits have buf ++ more)
left_over have buf n more few =
    let x : List ℕ = low_bits n (buf / 2 ^ (have - n)) in
    let y : List ℕ = low_bits (have - n) buf in
    sym (ap (λ (l : List ℕ). drop n (l ++ more)) (low_bits-first have buf n few) ∙ drop_front x y more n (length-low_bits n (buf / 2 ^ (have - n))))

-- what was moved from the octets into the buffer changes nothing
pub moved : (have n buf b : ℕ) (before after : List ℕ) → have + n ≤ 64 → b < 2 ^ n → before ≡ low_bits n b ++ after
    → low_bits (have + n) (bit_or (buf * 2 ^ n % 2 ^ 64) b) ++ after ≡ low_bits have buf ++ before
moved have n buf b before after room small is =
    ap (λ (l : List ℕ). l ++ after) (low_bits-shifted have n buf b room small) ∙ append_assoc (low_bits have buf) (low_bits n b) after
    ∙ ap (λ (l : List ℕ). low_bits have buf ++ l) (sym is)

-- ---- octets

-- the first bits of the octets from a place on, n of them from the octet there
pub from_octet : (octets : List ℕ) (at left n o : ℕ) → 8 * at + left ≤ 8 * length octets → 0 < left → n ≡ min left 8
    → get_or octets at 0 ≡ o → o < 256
    → bits_from octets at left ≡ low_bits n (o / 2 ^ (8 - n)) ++ bits_from octets (at + 1) (left - n)
from_octet octets at left n o within some is read small =
    let rest : List ℕ = bits_of_octets (drop (at + 1) octets) in
    let x : List ℕ = low_bits n (o / 2 ^ (8 - n)) in
    let y : List ℕ = low_bits (8 - n) o in
    let here : drop at octets ≡ o ∷ drop (at + 1) octets =
    drop_more octets at 0 (omega arith) ∙ ap (λ (k : ℕ). k ∷ drop (at + 1) octets) read in
    let octet : bits_of_octet o ≡ x ++ y = sym (low_bits-octet o small) ∙ low_bits-first 8 o n (omega arith) in
    let whole : bits_of_octets (drop at octets) ≡ x ++ (y ++ rest) =
    ap (λ (l : List ℕ). bits_of_octets l) here ∙ ap (λ (l : List ℕ). l ++ rest) octet ∙ append_assoc x y rest in
    let long : length x ≡ n = length-low_bits n (o / 2 ^ (8 - n)) in
    let count : left ≡ length x + (left - n) = omega arith in
    let cut : bits_from octets at left ≡ x ++ take (left - n) (y ++ rest) =
    ap (λ (l : List ℕ). take left l) whole ∙ ap (λ (k : ℕ). take k (x ++ (y ++ rest))) count ∙ take-append-add x (y ++ rest) (left - n) in
    cut ∙ ap (λ (l : List ℕ). x ++ l) (ending (cases_lt left 8))
  where
    ending : (left < 8) ⊎ (8 ≤ left)
        → take (left - n) (low_bits (8 - n) o ++ bits_of_octets (drop (at + 1) octets)) ≡ take (left - n)
        (bits_of_octets (drop (at + 1) octets))
    ending (inl short) = (let none : left - n ≡ 0 = omega arith in rw none refl)
    ending (inr long) = (let none : 8 - n ≡ 0 = omega arith in rw none refl)

-- ---- how many bits come

pub length-coming : (have buf : ℕ) (octets : List ℕ) (at left : ℕ) → 8 * at + left ≤ 8 * length octets
    → length (low_bits have buf ++ bits_from octets at left) ≡ have + left
length-coming have buf octets at left within =
    let held = length-low_bits have buf in
    let all = length-bits_of_octets (drop at octets) in
    let behind : length (drop at octets) ≡ length octets - at = length-drop at octets in
    let more : length (bits_from octets at left) ≡ left = length-take-le left (bits_of_octets (drop at octets)) (omega arith) in
    length-append (low_bits have buf) (bits_from octets at left) ∙ (omega (arith, held, more))

-- ---- eight octets at once

-- the first bits of the octets from a place on, k octets of them from a number that eight octets write
pub from_eight : (octets : List ℕ) (at left k all : ℕ) → 8 * at + left ≤ 8 * length octets → 64 ≤ left → k ≤ 8
    → low_bits 64 all ≡ bits_of_octets (take 8 (drop at octets))
    → bits_from octets at left ≡ low_bits (8 * k) (all / 2 ^ (64 - 8 * k)) ++ bits_from octets (at + k) (left - 8 * k)
from_eight octets at left k all within some few is =
    let front : List ℕ = drop at octets in
    let x : List ℕ = low_bits (8 * k) (all / 2 ^ (64 - 8 * k)) in
    let y : List ℕ = low_bits (64 - 8 * k) all ++ bits_of_octets (drop 8 front) in
    let long : length x ≡ 8 * k = length-low_bits (8 * k) (all / 2 ^ (64 - 8 * k)) in
    let whole : bits_of_octets front ≡ x ++ y =
    ap (λ (l : List ℕ). bits_of_octets l) (sym (take-append-drop 8 front)) ∙ bits_of_octets-append (take 8 front) (drop 8 front)
    ∙ ap (λ (l : List ℕ). l ++ bits_of_octets (drop 8 front)) (sym is ∙ low_bits-first 64 all (8 * k) (omega arith))
    ∙ append_assoc x (low_bits (64 - 8 * k) all) (bits_of_octets (drop 8 front)) in
    let others : y ≡ bits_of_octets (drop (at + k) octets) =
    sym (drop_at x y (8 * k) long) ∙ ap (λ (l : List ℕ). drop (8 * k) l) (sym whole) ∙ drop-bits_of_octets k front
    ∙ ap (λ (l : List ℕ). bits_of_octets l) (drop-drop k at octets) in
    let count : left ≡ length x + (left - 8 * k) = omega arith in
    ap (λ (l : List ℕ). take left l) whole ∙ ap (λ (n : ℕ). take n (x ++ y)) count ∙ take-append-add x y (left - 8 * k)
    ∙ ap (λ (l : List ℕ). x ++ take (left - 8 * k) l) others

octet_here : (octets : List ℕ) (at next : ℕ) → next ≡ at + 1 → at < length octets → drop at octets ≡ get_or octets at 0 ∷ drop next octets
octet_here octets at next is within = rw is (drop_more octets at 0 within)

pub next_eight : (octets : List ℕ) (at : ℕ) → at + 8 ≤ length octets
    → get_or octets at 0 ∷ get_or octets (at + 1) 0 ∷ get_or octets (at + 2) 0 ∷ get_or octets (at + 3) 0
    ∷ get_or octets (at + 4) 0 ∷ get_or octets (at + 5) 0 ∷ get_or octets (at + 6) 0 ∷ get_or octets (at + 7) 0 ∷ []
    ≡ take 8 (drop at octets)
next_eight octets at within =
    let l0 = octet_here octets at (at + 1) refl (omega arith) in
    let l1 = octet_here octets (at + 1) (at + 2) (omega arith) (omega arith) in
    let l2 = octet_here octets (at + 2) (at + 3) (omega arith) (omega arith) in
    let l3 = octet_here octets (at + 3) (at + 4) (omega arith) (omega arith) in
    let l4 = octet_here octets (at + 4) (at + 5) (omega arith) (omega arith) in
    let l5 = octet_here octets (at + 5) (at + 6) (omega arith) (omega arith) in
    let l6 = octet_here octets (at + 6) (at + 7) (omega arith) (omega arith) in
    let l7 = octet_here octets (at + 7) (at + 8) (omega arith) (omega arith) in
    rw (l0, l1, l2, l3, l4, l5, l6, l7) refl

-- ---- each of them is 0 or 1

AreOctets-drop : (n : ℕ) (octets : List ℕ) → AreOctets octets → AreOctets (drop n octets)
AreOctets-drop n octets small = λ k. rw (get_or-drop n octets k 0) (small (n + k))

pub IsBits-coming : (have buf : ℕ) (octets : List ℕ) (at left : ℕ) → AreOctets octets → IsBits (low_bits have buf ++ bits_from octets at left)
IsBits-coming have buf octets at left small =
    IsBits-append (low_bits have buf) (bits_from octets at left) (IsBits-low_bits have buf)
    (IsBits-take left (bits_of_octets (drop at octets)) (IsBits-bits_of_octets (drop at octets) (AreOctets-drop at octets small)))

-- ---- for a judge

-- ---- bit by bit

-- the first bits of a number's bits
pub take-low_bits : (k n v : ℕ) → k ≤ n → take k (low_bits n v) ≡ low_bits k (v / 2 ^ (n - k))
take-low_bits k n v few =
    ap (λ (l : List ℕ). take k l) (low_bits-first n v k few)
    ∙ take_at (low_bits k (v / 2 ^ (n - k))) (low_bits (n - k) v) k (length-low_bits k (v / 2 ^ (n - k)))

-- and one more
pub next_bit : (k n v : ℕ) → k < n → take (k + 1) (low_bits n v) ≡ take k (low_bits n v) ++ v / 2 ^ (n - 1 - k) % 2 ∷ []
next_bit k n v more =
    let w : ℕ = v / 2 ^ (n - (k + 1)) in
    let before : w / 2 ^ 1 ≡ v / 2 ^ (n - k) = shr-shr v (n - (k + 1)) 1 ∙ ap (λ (j : ℕ). v / 2 ^ j) (omega arith) in
    let last : w / 2 ^ 0 ≡ v / 2 ^ (n - 1 - k) = (let one : 2 ^ 0 ≡ 1 = refl in let e : n - (k + 1) ≡ n - 1 - k = omega arith in rw (one, e) (omega arith)) in
    take-low_bits (k + 1) n v (omega arith) ∙ low_bits-split k 1 w
    ∙ ap (λ (j : ℕ). low_bits k j ++ w / 2 ^ 0 % 2 ∷ []) before
    ∙ ap (λ (j : ℕ). low_bits k (v / 2 ^ (n - k)) ++ j % 2 ∷ []) last
    ∙ ap (λ (l : List ℕ). l ++ v / 2 ^ (n - 1 - k) % 2 ∷ []) (sym (take-low_bits k n v (omega arith)))

-- numbers with the same bits are the same
pub low_bits-same : (n a b : ℕ) → a < 2 ^ n → b < 2 ^ n → low_bits n a ≡ low_bits n b → a ≡ b
low_bits-same n a b small_a small_b same =
    sym (number_of-low_bits n a ∙ mod-eq_of_lt small_a) ∙ ap (λ (l : List ℕ). number_of l) same
    ∙ number_of-low_bits n b ∙ mod-eq_of_lt small_b

-- so their first bits are the same just where the numbers are that these write
pub first_bits-same : (k n a b : ℕ) → k ≤ n → a / 2 ^ (n - k) ≡ b / 2 ^ (n - k) → take k (low_bits n a) ≡ take k (low_bits n b)
first_bits-same k n a b few same =
    take-low_bits k n a few ∙ ap (λ (v : ℕ). low_bits k v) same ∙ sym (take-low_bits k n b few)

first_small : (k n a : ℕ) → k ≤ n → a < 2 ^ n → a / 2 ^ (n - k) < 2 ^ k
first_small k n a few small = shr_below a k (n - k) (let e : k + (n - k) ≡ n = omega arith in rw e small)

pub first_bits-number : (k n a b : ℕ) → k ≤ n → a < 2 ^ n → b < 2 ^ n → take k (low_bits n a) ≡ take k (low_bits n b)
    → a / 2 ^ (n - k) ≡ b / 2 ^ (n - k)
first_bits-number k n a b few small_a small_b same =
    low_bits-same k (a / 2 ^ (n - k)) (b / 2 ^ (n - k)) (first_small k n a few small_a) (first_small k n b few small_b)
    (sym (take-low_bits k n a few) ∙ same ∙ take-low_bits k n b few)
