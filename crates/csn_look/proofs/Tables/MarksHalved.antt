-- Each two marks side by side as one.
use Rattle.std.proofs.Common.{◌≡◌, ℕ, ◌+◌, ◌-◌, ◌*◌, ◌/◌, ◌%◌, ◌^◌, ◌<◌, ◌≤◌, ◌≢◌, Bool, true, false, ◌||◌, refl, sym, ap, ◌∙◌, arith, inl, inr}
use Rattle.std.specs.Prelude.{bit_or, ◌==◌}
use Rattle.std.specs.Int.{bit_at, w64}
use Rattle.std.proofs.lemmas.Bool.{cases_eq}
use Rattle.std.proofs.lemmas.Bool.Decides.{nat_tests}
use Rattle.std.proofs.lemmas.Nat.{or_lt, one_shl, pow_below, shr-shr}
use Rattle.std.proofs.lemmas.Nat.Bits.{bit_at_set_same, bit_at_set_other, bit_at-zero, bit_at_above}
use Rattle.csn_look.proofs.Tables.MarkFacts.{bit_of_either}
use Rattle.csn_look.proofs.Tables.MarksCopied.{bit_low, bit_high}

-- whether one of two marks is set
abbrev pub either_of : ℕ → ℕ → Bool
either_of marks k = (bit_at marks (2 * k) == 1) || (bit_at marks (2 * k + 1) == 1)

-- the marks below the limit are made of two each
pub record IsHalved (marks limit half : ℕ) : Type 0 where
  pub below : (k : ℕ) → k < limit → (bit_at half k == 1) ≡ either_of marks k
  pub small : half < 2 ^ limit

pub none_halved : (marks : ℕ) → IsHalved marks 0 0
none_halved marks = record { below = λ k low. absurd (omega arith); small = omega arith }

-- no marks
pub zero_halved : (marks half k : ℕ) → marks ≡ 0 → half ≡ 0 → (bit_at half k == 1) ≡ either_of marks k
zero_halved marks half k none nothing =
    ap (λ n. bit_at n k == 1) nothing ∙ ap (λ b. b == 1) (bit_at-zero k)
    ∙ sym (ap (λ n. either_of n k) none ∙ both (bit_at 0 (2 * k)) (bit_at 0 (2 * k + 1)) (bit_at-zero (2 * k)) (bit_at-zero (2 * k + 1)))
  where
    both : (a b : ℕ) → a ≡ 0 → b ≡ 0 → ((a == 1) || (b == 1)) ≡ false
    both a b e f = grind (arith, nat_tests)

-- the two marks as the last two bits of what is left
two_of : (marks at : ℕ) → (bit_at marks (2 * at) ≡ marks / 2 ^ (2 * at) % 2) × (bit_at marks (2 * at + 1) ≡ marks / 2 ^ (2 * at) / 2 % 2)
two_of marks at = (refl, ap (λ n. n % 2) (sym (shr-shr marks (2 * at) 1)))

one_set : (left a b : ℕ) → a ≡ left % 2 → b ≡ left / 2 % 2 → left % 4 ≢ 0 → ((a == 1) || (b == 1)) ≡ true
one_set left a b e f some = decide a b (omega arith) (omega arith) (λ x y. some (omega arith))
  where
    decide : (a b : ℕ) → a < 2 → b < 2 → (a ≡ 0 → b ≡ 0 → ⊥) → ((a == 1) || (b == 1)) ≡ true
    decide a b k l not = grind (arith, nat_tests)

none_set : (left a b : ℕ) → a ≡ left % 2 → b ≡ left / 2 % 2 → left % 4 ≡ 0 → ((a == 1) || (b == 1)) ≡ false
none_set left a b e f none =
    let x : a ≡ 0 = omega arith in
    let y : b ≡ 0 = omega arith in
    grind (arith, nat_tests)

-- one mark more, which is set
pub halved_one :
    (marks at half : ℕ) → at < 32 → marks / 2 ^ (2 * at) % 4 ≢ 0 → IsHalved marks at half
    → IsHalved marks (at + 1) (bit_or half (1 * 2 ^ at % 18446744073709551616))
halved_one marks at half few some h = record {
  below = λ k low. elim (cases_eq k at) [
    | inl same ↦
        let two = two_of marks at in
        ap (λ n. bit_at (bit_or half (1 * 2 ^ at % 18446744073709551616)) n == 1) same
        ∙ ap (λ b. b == 1) (bit_at_set_same w64 half at (omega arith))
        ∙ sym (one_set (marks / 2 ^ (2 * at)) (bit_at marks (2 * at)) (bit_at marks (2 * at + 1)) two.0 two.1 some) ∙ ap (λ n. either_of marks n) (sym same)
    | inr apart ↦ ap (λ b. b == 1) (bit_at_set_other w64 half at (omega arith) k apart) ∙ h.below k (below k apart low)
  ];
  small =
      let one : 1 * 2 ^ at % 2 ^ 64 ≡ 2 ^ at = one_shl at 64 (omega arith) in
      let more : 2 ^ at < 2 ^ (at + 1) = pow_below at (at + 1) (omega arith) in
      let less = h.small in
      or_lt (at + 1) half (1 * 2 ^ at % 18446744073709551616) (omega arith) (omega (arith, one));
}
  where
    below : (k : ℕ) → k ≢ at → k < at + 1 → k < at
    below k apart low = omega arith

-- and one that is not
pub halved_none : (marks at half : ℕ) → at < 32 → marks / 2 ^ (2 * at) % 4 ≡ 0 → IsHalved marks at half → IsHalved marks (at + 1) half
halved_none marks at half few none h = record {
  below = λ k low. elim (cases_eq k at) [
    | inl same ↦
        let two = two_of marks at in
        ap (λ n. bit_at half n == 1) same ∙ ap (λ b. b == 1) (bit_at_above half at at h.small (omega arith))
        ∙ sym (none_set (marks / 2 ^ (2 * at)) (bit_at marks (2 * at)) (bit_at marks (2 * at + 1)) two.0 two.1 none) ∙ ap (λ n. either_of marks n) (sym same)
    | inr apart ↦ h.below k (below k apart low)
  ];
  small =
      let more : 2 ^ at < 2 ^ (at + 1) = pow_below at (at + 1) (omega arith) in
      let less = h.small in
      omega arith;
}
  where
    below : (k : ℕ) → k ≢ at → k < at + 1 → k < at
    below k apart low = omega arith

-- the marks of two numbers, each two as one
pub two_halved :
    (low high a b k : ℕ) → a < 2 ^ 32 → b < 2 ^ 32 → ((i : ℕ) → i < 32 → (bit_at a i == 1) ≡ either_of low i)
    → ((i : ℕ) → i < 32 → (bit_at b i == 1) ≡ either_of high i)
    → ((k < 32) → (bit_at (bit_or a (b * 2 ^ 32)) k == 1) ≡ either_of low k)
    × ((32 ≤ k) → k < 64 → (bit_at (bit_or a (b * 2 ^ 32)) k == 1) ≡ either_of high (k - 32))
two_halved low high a b k few more lower upper = (
  λ small. bit_of_either a (b * 2 ^ 32) k ∙ second (bit_at a k == 1) (bit_at (b * 2 ^ 32) k) (bit_low b 32 k small) ∙ lower k small,
  λ large within. bit_of_either a (b * 2 ^ 32) k ∙ first (bit_at a k) (bit_at (b * 2 ^ 32) k == 1)
      (bit_at_above a 32 k few large) ∙ ap (λ n. n == 1) (bit_high b 32 k large) ∙ upper (k - 32) (omega arith),
)
  where
    second : (x : Bool) (y : ℕ) → y ≡ 0 → (x || (y == 1)) ≡ x
    second true y e = refl
    second false y e = ap (λ n. n == 1) e

    first : (x : ℕ) (y : Bool) → x ≡ 0 → ((x == 1) || y) ≡ y
    first x y e = ap (λ n. (n == 1) || y) e
