-- Digits that are written one by one.
use Rattle.std.proofs.Common.{◌≡◌, ℕ, suc, ◌+◌, ◌-◌, ◌*◌, ◌/◌, ◌%◌, ◌<◌, ◌≤◌, ⊎_elim, Bool, true, false, sym, ap, ◌∙◌, subst, arith}
use Rattle.std.specs.Prelude.{◌^◌, ◌==◌, ◌↔◌, Option, Some, None, IsTrue}
use Rattle.std.proofs.Math.Nat.{pow-succ', div-div-eq-div-mul}
use Rattle.std.proofs.Math.Pow.{pow_mono}
use Rattle.std.proofs.lemmas.Bool.{cases_lt}
use Rattle.csn_look.specs.declared.symbol_set.Sign.TheVariants.{Zero, One, End}
use Rattle.csn_good.specs.Signs.{sign_of}
use Rattle.csn_good.specs.ClaimedSets.{has_digit}
use Rattle.csn_good.proofs.Digits.{digit_is}
use Rattle.csn_certmake.specs.Digits.{with_digit, DigitsAre, SaysFollow}

half : (digits : ℕ) (is : Bool) → with_digit digits is / 2 ≡ digits
half digits true = omega arith
half digits false = omega arith

odd : (digits : ℕ) (is : Bool) → (with_digit digits is / 1 % 2 == 1) ≡ is
odd digits true = (let one : (2 * digits + 1) / 1 % 2 ≡ 1 = omega arith in ap (λ k. k == 1) one)
odd digits false = (let none : (2 * digits) / 1 % 2 ≡ 0 = omega arith in ap (λ k. k == 1) none)

-- the digits before the new one are as they were
before_new : (count digits : ℕ) (is : Bool) (place : ℕ) → place < count → has_digit (suc count) (with_digit digits is) place ≡ has_digit count digits place
before_new count digits is place low =
    let e : ℕ = count - 1 - place in
    let exponent : suc count - 1 - place ≡ suc e = omega arith in
    digit_is (suc count) (with_digit digits is) place (omega arith)
    ∙ ap (λ k. with_digit digits is / 2 ^ k % 2 == 1) exponent
    ∙ ap (λ k. with_digit digits is / k % 2 == 1) (pow-succ' 2 e)
    ∙ ap (λ k. k % 2 == 1) (sym (div-div-eq-div-mul (with_digit digits is) 2 (2 ^ e)) ∙ ap (λ k. k / 2 ^ e) (half digits is))
    ∙ sym (digit_is count digits place low)

new_one : (count digits : ℕ) (is : Bool) → has_digit (suc count) (with_digit digits is) count ≡ is
new_one count digits is =
    let exponent : suc count - 1 - count ≡ 0 = omega arith in
    digit_is (suc count) (with_digit digits is) count (omega arith)
    ∙ ap (λ k. with_digit digits is / 2 ^ k % 2 == 1) exponent
    ∙ odd digits is

same_answer : {P : Type 0} (b c : Bool) → b ≡ c → IsTrue c ↔ P → IsTrue b ↔ P
same_answer {P} b c same holds = subst (λ (x : Bool). IsTrue x ↔ P) (sym same) holds

pub digit_more : (count next digits : ℕ) (is : Bool) (P : ℕ → Type 0) → next ≡ suc count → DigitsAre count digits P
    → IsTrue is ↔ P count → DigitsAre next (with_digit digits is) P
digit_more count next digits is P step each here =
    subst (λ (n : ℕ). DigitsAre n (with_digit digits is) P) (sym step)
    (λ place low.
    ⊎_elim
    (λ (before : place < count). same_answer (has_digit (suc count) (with_digit digits is) place)
    (has_digit count digits place) (before_new count digits is place before) (each place before))
    (λ (past : count ≤ place).
    let at : count ≡ place = omega arith in
    subst (λ (k : ℕ). IsTrue (has_digit (suc count) (with_digit digits is) k) ↔ P k) at
    (same_answer (has_digit (suc count) (with_digit digits is) count) is (new_one count digits is) here))
    (cases_lt place count))

-- so many digits are below a power of two
pub small_more : (count next digits : ℕ) (is : Bool) → next ≡ suc count → digits < 2 ^ count → with_digit digits is < 2 ^ next
small_more count next digits true step small = (let twice : 2 ^ next ≡ 2 * 2 ^ count = ap (λ (n : ℕ). 2 ^ n) step ∙ pow-succ' 2 count in omega arith)
small_more count next digits false step small = (let twice : 2 ^ next ≡ 2 * 2 ^ count = ap (λ (n : ℕ). 2 ^ n) step ∙ pow-succ' 2 count in omega arith)

pub small_enough : (count digits : ℕ) → digits < 2 ^ count → count ≤ 23 → digits < 8388608
small_enough count digits small few = (let most : 2 ^ count ≤ 2 ^ 23 = pow_mono few in omega arith)

-- ---- three digits for each octet position

abbrev pub AtPlace : (ℕ → Option ℕ → Type 0) → ℕ → Type 0
AtPlace P place = P (place / 3) (sign_of (place % 3))

at_place : (P : ℕ → Option ℕ → Type 0) (octet k : ℕ) → k < 3 → AtPlace P (3 * octet + k) ↔ P octet (sign_of k)
at_place P octet k low =
    let third : (3 * octet + k) / 3 ≡ octet = omega arith in
    let left : (3 * octet + k) % 3 ≡ k = omega arith in (
      λ holds. subst (λ (o : ℕ). P o (sign_of k)) third (subst (λ (m : ℕ). P ((3 * octet + k) / 3) (sign_of m)) left holds),
      λ holds. subst (λ (m : ℕ). P ((3 * octet + k) / 3) (sign_of m)) (sym left) (subst (λ (o : ℕ). P o (sign_of k)) (sym third) holds),
    )

placed : (P : ℕ → Option ℕ → Type 0) (octet k : ℕ) (is : Bool) → k < 3 → IsTrue is ↔ P octet (sign_of k) → IsTrue is ↔ AtPlace P (3 * octet + k)
placed P octet k is low holds = (λ true. (at_place P octet k low).1 (holds.0 true), λ there. holds.1 ((at_place P octet k low).0 there))

pub three_more : (P : ℕ → Option ℕ → Type 0) (octet next digits : ℕ) (zero one end : Bool)
    → next ≡ octet + 1 → DigitsAre (3 * octet) digits (AtPlace P) → IsTrue zero ↔ P octet (Some 0)
    → IsTrue one ↔ P octet (Some 1)
    → IsTrue end ↔ P octet None → DigitsAre (3 * next) (with_digit (with_digit (with_digit digits zero) one) end)
    (AtPlace P)
three_more P octet next digits zero one end step each is_zero is_one is_end =
    let none : 3 * octet ≡ 3 * octet + 0 = omega arith in
    digit_more (3 * octet + 2) (3 * next) (with_digit (with_digit digits zero) one) end (AtPlace P) (omega arith)
    (digit_more (3 * octet + 1) (3 * octet + 2) (with_digit digits zero) one (AtPlace P) (omega arith)
    (digit_more (3 * octet + 0) (3 * octet + 1) digits zero (AtPlace P) (omega arith)
    (subst (λ (n : ℕ). DigitsAre n digits (AtPlace P)) none each)
    (placed P octet 0 zero (omega arith) is_zero))
    (placed P octet 1 one (omega arith) is_one))
    (placed P octet 2 end (omega arith) is_end)

pub small_three : (octet next digits : ℕ) (zero one end : Bool) → next ≡ octet + 1 → digits < 2 ^ (3 * octet)
    → with_digit (with_digit (with_digit digits zero) one) end < 2 ^ (3 * next)
small_three octet next digits zero one end step small =
    small_more (3 * octet + 2) (3 * next) (with_digit (with_digit digits zero) one) end (omega arith)
    (small_more (3 * octet + 1) (3 * octet + 2) (with_digit digits zero) one (omega arith)
    (small_more (3 * octet) (3 * octet + 1) digits zero (omega arith) small))

told : (P : ℕ → Option ℕ → Type 0) (digits o k : ℕ) → DigitsAre 24 digits (AtPlace P)
    → o ≤ 7 → k < 3 → IsTrue (has_digit 24 digits (3 * o + k)) ↔ P o (sign_of k)
told P digits o k each low few =
    let holds = each (3 * o + k) (omega arith) in (
      λ true. (at_place P o k few).0 (holds.0 true),
      λ there. holds.1 ((at_place P o k few).1 there),
    )

pub follow_told : (P : ℕ → Option ℕ → Type 0) (digits : ℕ) → DigitsAre 24 digits (AtPlace P) → SaysFollow digits P
follow_told P digits each o Zero low = told P digits o 0 each low (omega arith)
follow_told P digits each o One low = told P digits o 1 each low (omega arith)
follow_told P digits each o End low = told P digits o 2 each low (omega arith)
