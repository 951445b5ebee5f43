-- The numbers that the bits of symbols write, and where bits differ from those of symbols.
use Rattle.std.proofs.Common.{◌≡◌, ℕ, zero, suc, ◌+◌, ◌-◌, ◌*◌, ◌/◌, ◌%◌, ◌^◌, ◌<◌, ◌≤◌, List, [], ◌∷◌, ◌++◌, length}
use Rattle.std.proofs.Common.{take, drop, refl, sym, ap, subst, ◌∙◌, arith, Some, slice_get}
use Rattle.std.specs.Prelude.{replicate}
use Rattle.std.proofs.Math.Nat.{pow-succ'}
use Rattle.std.proofs.lemmas.List.{take_all, length-take-le, length-replicate}
use Rattle.std.proofs.lemmas.Nat.{one_shl}
use Rattle.csn_bits.specs.Octets.{IsBits, pattern}
use Rattle.csn_desc.specs.declared.reading.Reading.{Reading}
use Rattle.csn_desc.specs.declared.reading.Reading.TheVariants.{Received, Sent}
use Rattle.csn_desc.specs.declared.symbol.Symbol.{Symbol}
use Rattle.csn_desc.specs.declared.symbol.Symbol.TheVariants.{Zero, One, Low, High}
use Rattle.csn_desc.specs.Spelled.{symbol_bit, spelled, IsSpare}
use Rattle.csn_bits.specs.Numbers.{low_bits}
use Rattle.csn_bits.proofs.NumberFacts.{length-low_bits, low_bits-first, low_bits-join, low_bits-mod}
use Rattle.csn_judge.proofs.Leaves.{spelled-append, spare_front, spare_back}
use Rattle.csn_desc.proofs.BitFacts.{length-spelled}

-- ---- one symbol more

pub low_bits-more : (k v b : ℕ) → b < 2 → low_bits (k + 1) (2 * v + b) ≡ low_bits k v ++ b ∷ []
low_bits-more k v b small =
    let two : 2 ^ 1 ≡ 2 = refl in
    let one : 2 ^ 0 ≡ 1 = refl in
    let sum : 2 * v + b ≡ v * 2 ^ 1 + b = omega (arith, two) in
    let less : b < 2 ^ 1 = omega (arith, two, small) in
    let bit : b / 2 ^ 0 % 2 ≡ b = omega (arith, one, small) in
    ap (λ (n : ℕ). low_bits (k + 1) n) sum ∙ low_bits-join k 1 v b less ∙ ap (λ (n : ℕ). low_bits k v ++ n ∷ []) bit

pub small-more : (k v b : ℕ) → b < 2 → v < 2 ^ k → 2 * v + b < 2 ^ (k + 1)
small-more k v b bit small =
    let e : k + 1 ≡ suc k = omega arith in
    omega (arith, bit, small, pow-succ' 2 k, ap (λ (n : ℕ). 2 ^ n) e)

take_next : (l : List Symbol) (k : ℕ) (s : Symbol) → slice_get l k ≡ Some s → take (suc k) l ≡ take k l ++ s ∷ []
take_next [] k s at = absurd (cc)
take_next (x ∷ l) zero s at = let same : x ≡ s = cc in ap (λ y. y ∷ []) same
take_next (x ∷ l) (suc k) s at = ap (λ m. x ∷ m) (take_next l k s at)

from_drop : (l : List Symbol) (at k : ℕ) → slice_get l (at + k) ≡ slice_get (drop at l) k
from_drop l zero k = let e : 0 + k ≡ k = omega arith in ap (λ n. slice_get l n) e
from_drop [] (suc at) k = refl
from_drop (x ∷ l) (suc at) k = let e : suc at + k ≡ suc (at + k) = omega arith in ap (λ n. slice_get (x ∷ l) n) e ∙ from_drop l at k

pub spelled-more : (l : List Symbol) (k place : ℕ) (s : Symbol) → slice_get l k ≡ Some s → k < length l
    → spelled (take (k + 1) l) place ≡ spelled (take k l) place ++ symbol_bit s (place + k) ∷ []
spelled-more l k place s at within =
    let e : k + 1 ≡ suc k = omega arith in
    ap (λ n. spelled (take n l) place) e ∙ ap (λ m. spelled m place) (take_next l k s at)
    ∙ spelled-append (take k l) (s ∷ []) place
    ∙ ap (λ n. spelled (take k l) place ++ symbol_bit s (place + n) ∷ []) (long l k within)
  where
    long : (l : List Symbol) (k : ℕ) → k < length l → length (take k l) ≡ k
    long l zero less = refl
    long [] (suc k) less = absurd (omega arith)
    long (x ∷ l) (suc k) less = ap suc (long l k (omega arith))

-- one symbol more of a literal
pub run-more : (run : List Symbol) (at k place v bit : ℕ) (s : Symbol) → slice_get run (at + k) ≡ Some s → k < length (drop at run)
    → bit ≡ symbol_bit s (place + k) → bit ≤ 1 → low_bits k v ≡ spelled (take k (drop at run)) place
    → low_bits (k + 1) (2 * v + bit) ≡ spelled (take (k + 1) (drop at run)) place
run-more run at k place v bit s here within is small so_far =
    low_bits-more k v bit (omega (arith, small))
    ∙ ap (λ l. l ++ bit ∷ []) so_far
    ∙ ap (λ b. spelled (take k (drop at run)) place ++ b ∷ []) is
    ∙ sym (spelled-more (drop at run) k place s (sym (from_drop run at k) ∙ here) within)

-- ---- one symbol many times

octet_again : (s : Symbol) (a b : ℕ) → a % 8 ≡ b % 8 → symbol_bit s a ≡ symbol_bit s b
octet_again Zero a b same = refl
octet_again One a b same = refl
octet_again Low a b same = ap (λ p. pattern p) same
octet_again High a b same = ap (λ p. 1 - pattern p) same

spelled_again : (n : ℕ) (s : Symbol) (a b : ℕ) → a % 8 ≡ b % 8 → spelled (replicate n s) a ≡ spelled (replicate n s) b
spelled_again zero s a b same = refl
spelled_again (suc n) s a b same =
    let first = octet_again s a b same in
    let others = spelled_again n s (suc a) (suc b) (omega (arith, same)) in
    cc

-- from any place on, of the number that a symbol writes 63 times
pub repeated_bits : (s : Symbol) (all n place : ℕ) → low_bits 63 all ≡ spelled (replicate 63 s) 0 → n ≤ 56
    → low_bits n (all / 2 ^ (63 - place % 8 - n) % (1 * 2 ^ n % 2 ^ 64)) ≡ spelled (replicate n s) place
repeated_bits s all n place whole few =
    let q : ℕ = place % 8 in
    let octet : q < 8 = omega arith in
    let v : ℕ = all / 2 ^ (63 - q - n) in
    let one : 1 * 2 ^ n % 2 ^ 64 ≡ 2 ^ (0 + n) = (let e : 0 + n ≡ n = omega arith in rw e (one_shl n 64 (omega (arith, few)))) in
    let before : List ℕ = low_bits q (all / 2 ^ (63 - q)) in
    let spare : IsSpare Sent s 0 (low_bits 63 all) = whole ∙ ap (λ k. spelled (replicate k s) 0) (sym (length-low_bits 63 all)) in
    let from = spare_back Sent s 0 before (low_bits (63 - q) all) (subst (λ l. IsSpare Sent s 0 l) (low_bits-first 63 all q (omega (arith, octet))) spare) in
    let front = spare_front Sent s (0 + length before) (low_bits n v) (low_bits (63 - q - n) all)
    (subst (λ l. IsSpare Sent s (0 + length before) l) (low_bits-first (63 - q) all n (omega (arith, octet, few)))
    from) in
    ap (λ k. low_bits n (v % k)) one ∙ low_bits-mod n 0 v ∙ front
    ∙ ap (λ k. spelled (replicate k s) (0 + length before)) (length-low_bits n v)
    ∙ spelled_again n s (0 + length before) place (omega (arith, length-low_bits q (all / 2 ^ (63 - q))))

-- ---- where bits differ from those of symbols

-- the bits are those of the first few symbols, and then one that is not
pub record Mismatch (l : List Symbol) (place : ℕ) (bits : List ℕ) (k : ℕ) : Type 0 where
  pub run : List Symbol
  pub more : List Symbol
  pub s : Symbol
  pub bit : ℕ
  pub later : List ℕ
  pub split : l ≡ run ++ s ∷ more
  pub is : bits ≡ spelled run place ++ bit ∷ later
  pub long : length run ≡ k
  pub not : ¬ (bit ≡ symbol_bit s (place + length run))

one_more : (s : Symbol) (l : List Symbol) (place a : ℕ) (bits : List ℕ) (k : ℕ) → a ≡ symbol_bit s place
    → take (k + 1) bits ≡ take (k + 1) (spelled l (suc place)) → take (suc k + 1) (a ∷ bits) ≡ take (suc k + 1) (spelled (s ∷ l) place)
one_more s l place a bits k first e =
    let more : suc k + 1 ≡ suc (k + 1) = omega arith in
    rw (more, first) (ap (λ m. symbol_bit s place ∷ m) e)

pub mismatch : (l : List Symbol) (place : ℕ) (bits : List ℕ) (k : ℕ) → k < length l → k < length bits
    → take k bits ≡ take k (spelled l place) → ¬ (take (k + 1) bits ≡ take (k + 1) (spelled l place)) → Mismatch l place bits k
mismatch [] place bits k less few same not = absurd (omega arith)
mismatch (s ∷ l) place [] k less few same not = absurd (omega arith)
mismatch (s ∷ l) place (a ∷ bits) zero less few same not =
    record {
      run = [];
      more = l;
      s = s;
      bit = a;
      later = bits;
      split = refl;
      is = refl;
      long = refl;
      not = λ e. not (ap (λ n. n ∷ []) (e ∙ ap (λ p. symbol_bit s p) (let same : place + length {A = Symbol} [] ≡ place = omega arith in same)));
    }
mismatch (s ∷ l) place (a ∷ bits) (suc k) less few same not =
    let first : a ≡ symbol_bit s place = cc in
    let others : take k bits ≡ take k (spelled l (suc place)) = cc in
    let more : suc k + 1 ≡ suc (k + 1) = omega arith in
    let inner = mismatch l (suc place) bits k (omega arith) (omega arith) others
    (λ e. not (one_more s l place a bits k first e)) in
    let at : suc place + length inner.run ≡ place + length (s ∷ inner.run) = omega arith in
    record {
      run = s ∷ inner.run;
      more = inner.more;
      s = inner.s;
      bit = inner.bit;
      later = inner.later;
      split = ap (λ m. s ∷ m) inner.split;
      is = ap (λ m. a ∷ m) inner.is ∙ ap (λ b. b ∷ (spelled inner.run (suc place) ++ inner.bit ∷ inner.later)) first;
      long = ap suc inner.long;
      not = λ e. inner.not (e ∙ ap (λ p. symbol_bit inner.s p) (sym at));
    }

-- the first of so many times one symbol
record Repeats (s : Symbol) (xs : List Symbol) (t : Symbol) : Type 0 where
  pub front : xs ≡ replicate (length xs) s
  pub one : t ≡ s

repeats : (n : ℕ) (s t : Symbol) (xs ys : List Symbol) → replicate n s ≡ xs ++ t ∷ ys → Repeats s xs t
repeats zero s t [] ys e = absurd (cc)
repeats zero s t (x ∷ xs) ys e = absurd (cc)
repeats (suc n) s t [] ys e = record { front = refl; one = cc }
repeats (suc n) s t (x ∷ xs) ys e =
    let first : x ≡ s = cc in
    let others : replicate n s ≡ xs ++ t ∷ ys = cc in
    let inner = repeats n s t xs ys others in
    record { front = ap (λ m. x ∷ m) inner.front ∙ ap (λ y. y ∷ replicate (length xs) s) first; one = inner.one }

-- where bits differ from those that a sender writes into a spare part
pub record SpareMismatch (s : Symbol) (place : ℕ) (bits : List ℕ) (k : ℕ) : Type 0 where
  pub alike : List ℕ
  pub bit : ℕ
  pub later : List ℕ
  pub is : bits ≡ alike ++ bit ∷ later
  pub long : length alike ≡ k
  pub good : IsSpare Sent s place alike
  pub not : ¬ IsSpare Sent s (place + length alike) (bit ∷ [])

pub spare_mismatch : (s : Symbol) (n place : ℕ) (bits : List ℕ) (k : ℕ) → k < n → k < length bits
    → take k bits ≡ take k (spelled (replicate n s) place) → ¬ (take (k + 1) bits ≡ take (k + 1) (spelled (replicate n s) place))
    → SpareMismatch s place bits k
spare_mismatch s n place bits k less few same not =
    let m = mismatch (replicate n s) place bits k (omega (arith, less, length-replicate n s)) few same not in
    let r = repeats n s m.s m.run m.more m.split in
    let size = length-spelled m.run place in
    record {
      alike = spelled m.run place;
      bit = m.bit;
      later = m.later;
      is = m.is;
      long = size ∙ m.long;
      good = ap (λ l. spelled l place) r.front ∙ ap (λ j. spelled (replicate j s) place) (sym size);
      not = λ e. m.not (bit_of (place + length (spelled m.run place)) e ∙ ap (λ j. symbol_bit s (place + j)) size ∙ ap
          (λ t. symbol_bit t (place + length m.run)) (sym r.one));
    }
  where
    bit_of : {a : ℕ} (p : ℕ) → (a ∷ []) ≡ spelled (replicate 1 s) p → a ≡ symbol_bit s p
    bit_of p e = cc

-- ---- where they do not differ

-- as many as there are
pub all_alike : (a n : ℕ) (bits l : List ℕ) → a ≤ n → n ≤ a → length l ≡ n → take a bits ≡ take a l → take n bits ≡ l
all_alike a n bits l less more size same =
    let e : n ≡ a = omega (arith, less, more) in
    ap (λ k. take k bits) e ∙ same ∙ take_all a l (omega (arith, size, e))

pub spare_sent : (reading : Reading) (s : Symbol) (n place : ℕ) (bits : List ℕ) → reading ≡ Sent → n ≤ length bits
    → take n bits ≡ spelled (replicate n s) place → IsSpare reading s place (take n bits)
spare_sent reading s n place bits sent few same =
    let P : Reading → Type 0 = λ r. IsSpare r s place (take n bits) in
    subst P (sym sent) (same ∙ ap (λ k. spelled (replicate k s) place) (sym (length-take-le n bits few)))

pub spare_unsent : (reading : Reading) (s : Symbol) (place : ℕ) (bits : List ℕ) → ¬ (reading ≡ Sent) → IsBits bits → IsSpare reading s place bits
spare_unsent Received s place bits not good = good
spare_unsent Sent s place bits not good = absurd (not refl)
