-- Decimal numbers that are read digit by digit.
use Rattle.std.proofs.Common.{◌≡◌, ℕ, zero, suc, ◌+◌, ◌-◌, ◌*◌, ◌/◌, ◌%◌, ◌^◌, ◌<◌, ◌≤◌, ◌==◌, nat_le, true, ◌&&◌}
use Rattle.std.proofs.Common.{List, [], ◌∷◌, ◌++◌, Option, Some, None, refl, sym, ap, ◌∙◌, arith, inl, inr, eqb-true}
use Rattle.std.specs.Fmt.{decimal}
use Rattle.std.proofs.lemmas.Fmt.{decimal_digit, decimal_step}
use Rattle.std.proofs.lemmas.Bool.{agree_below_at, and_parts, cases_Bool, leb-true, le-leb}
use Rattle.csn_treetext.specs.declared.bounds.TheConstants.{MOST_SHORT}
use Rattle.csn_treetext.specs.reader.Numeral.{digit_of, at_most, appended, grown, greatest_of}

-- what a program makes of all ones, shifted
pub greatest_shifted : (width : ℕ) → width ≤ MOST_SHORT → 18446744073709551615 / 2 ^ (64 - width) ≡ greatest_of width
greatest_shifted width few =
    eqb-true _ _ (agree_below_at (λ w. 18446744073709551615 / 2 ^ (64 - w) == 2 ^ w - 1) (λ _. true) 65 width refl (omega arith))

-- ---- one byte

pub digit_of-digit : (d : ℕ) → d < 10 → digit_of (48 + d) ≡ Some d
digit_of-digit d low =
    let low_end : nat_le 48 (48 + d) ≡ true = le-leb 48 (48 + d) (omega arith) in
    let high_end : nat_le (48 + d) 57 ≡ true = le-leb (48 + d) 57 (omega arith) in
    let is : 48 + d - 48 ≡ d = omega arith in
    rw (low_end, high_end, is) refl

pub digit_of-some : (byte d : ℕ) → digit_of byte ≡ Some d → (d < 10) × (byte ≡ 48 + d)
digit_of-some byte d h = elim (cases_Bool (nat_le 48 byte && nat_le byte 57)) [
  | inl within ↦ (
      let (low, high) = and_parts (nat_le 48 byte) (nat_le byte 57) within in
      let is : byte - 48 ≡ d = (let e = rw within at h in cc) in
      let low_end = leb-true _ _ low in
      let high_end = leb-true _ _ high in
      (omega arith, omega arith))
  | inr outside ↦ (let e = rw outside at h in absurd (cc))
]

pub at_most-some : (most n m : ℕ) → at_most most n ≡ Some m → (n ≡ m) × (n ≤ most)
at_most-some most n m h = elim (cases_Bool (nat_le n most)) [
  | inl within ↦ (let e = rw within at h in (cc, leb-true _ _ within))
  | inr outside ↦ (let e = rw outside at h in absurd (cc))
]

pub at_most-within : (most n : ℕ) → n ≤ most → at_most most n ≡ Some n
at_most-within most n h = rw (le-leb n most h) refl

-- ---- a number grows as it is written

pub grown_first : (most n : ℕ) → n < 10 → n ≤ most → grown most None (48 + n) ≡ Some n
grown_first most n low few = rw (digit_of-digit n low) (at_most-within most n few)

appended_more : (most m d : ℕ) → 0 < m → appended most (Some m) d ≡ at_most most (10 * m + d)
appended_more most zero d some = absurd (omega arith)
appended_more most (suc m) d some = refl

pub grown_next : (most n : ℕ) → 10 ≤ n → n ≤ most → grown most (Some (n / 10)) (48 + n % 10) ≡ Some n
grown_next most n many few =
    let is : 10 * (n / 10) + n % 10 ≡ n = omega arith in
    rw (digit_of-digit (n % 10) (omega arith)) (appended_more most (n / 10) (n % 10) (omega arith) ∙ (rw is (at_most-within most n few)))

-- ---- and is written as it grew

pub record Grew (most : ℕ) (n byte : ℕ) (before : List ℕ) : Type 0 where
  pub few : n ≤ most
  pub digits : decimal n ≡ before ++ byte ∷ []
  pub low : 48 ≤ byte
  pub high : byte ≤ 57

pub grew_first : (most n byte : ℕ) → grown most None byte ≡ Some n → Grew most n byte []
grew_first most n byte h = by_digit (digit_of byte) refl
  where
    by_digit : (o : Option ℕ) → digit_of byte ≡ o → Grew most n byte []
    by_digit None e = (let z = rw e at h in absurd (cc))
    by_digit (Some d) e =
        let (small, is) = digit_of-some byte d e in
        let (same, few) = at_most-some most d n (rw e at h) in
        record {
          few = omega arith;
          digits = ap decimal (sym same) ∙ decimal_digit d small ∙ ap (λ c. c ∷ []) (sym is);
          low = omega arith;
          high = omega arith;
        }

pub grew_next : (most m n byte : ℕ) → most < 2 ^ 64 → grown most (Some m) byte ≡ Some n → (10 ≤ n) × Grew most n byte (decimal m)
grew_next most zero n byte small h = absurd (none (digit_of byte) refl)
  where
    none : (o : Option ℕ) → digit_of byte ≡ o → ⊥
    none None e = (let z = rw e at h in cc)
    none (Some d) e = (let z = rw e at h in cc)
grew_next most (suc m) n byte small h = by_digit (digit_of byte) refl
  where
    by_digit : (o : Option ℕ) → digit_of byte ≡ o → (10 ≤ n) × Grew most n byte (decimal (suc m))
    by_digit None e = (let z = rw e at h in absurd (cc))
    by_digit (Some d) e =
        let (low, is) = digit_of-some byte d e in
        let (same, few) = at_most-some most (10 * suc m + d) n (rw e at h) in
        let front : n / 10 ≡ suc m = omega arith in
        let last : 48 + n % 10 ≡ byte = omega arith in (
          omega arith,
          record {
            few = omega arith;
            digits = decimal_step n (omega arith) (omega arith) ∙ ap (λ k. decimal k ++ (48 + n % 10) ∷ []) front ∙ ap (λ c. decimal (suc m) ++ c ∷ []) last;
            low = omega arith;
            high = omega arith;
          },
        )
