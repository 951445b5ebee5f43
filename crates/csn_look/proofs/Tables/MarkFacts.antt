-- What setting marks does.
use Rattle.std.proofs.Common.{◌≡◌, ℕ, zero, suc, ◌*◌, ◌/◌, ◌%◌, ◌^◌, ◌<◌, ◌≤◌, ◌≢◌, true, false, ◌||◌, nat_eq, List}
use Rattle.std.proofs.Common.{length, get_or, refl, sym, ap, ◌∙◌, arith, inl, inr, ◌⊎◌}
use Rattle.std.specs.Prelude.{bit_or, ◌==◌, slice_set}
use Prim.Native.Nat.{max}
use Rattle.std.specs.Int.{bit_at, w64}
use Rattle.std.proofs.lemmas.Bool.Decides.{eqb_tells, nat_tests}
use Rattle.std.proofs.lemmas.List.{get_or-set_same, get_or-set_other, get_or_past}
use Rattle.std.proofs.Math.ListN.{replicate}
use Rattle.std.proofs.lemmas.Nat.Bits.{bit_at_set_same, bit_at_set_other, bit_at_or, bit_at-lt, bit_at-zero}
use Rattle.csn_look.specs.KeyMarks.{is_marked}

-- one mark more
pub set_marked :
    (marks : List ℕ) (at other : ℕ) → at < 64 * length marks
    → is_marked (slice_set marks (at / 64) (bit_or (get_or marks (at / 64) 0) (1 * 2 ^ (at % 64) % 18446744073709551616))) other
    ≡ (nat_eq other at || is_marked marks other)
set_marked marks at other within =
    let there : at / 64 < length marks = omega arith in
    let low : at % 64 < 64 = omega arith in
    elim (eqb_tells other at) [
      | inl same ↦
          let written = get_or-set_same marks (at / 64) (bit_or (get_or marks (at / 64) 0) (1 * 2 ^ (at % 64) % 18446744073709551616)) 0 there in
          let bit = bit_at_set_same w64 (get_or marks (at / 64) 0) (at % 64) low in
          ap (λ n. is_marked (slice_set marks (at / 64) (bit_or (get_or marks (at / 64) 0) (1 * 2 ^ (at % 64) % 18446744073709551616))) n) same.1
          ∙ ap (λ n. bit_at n (at % 64) == 1) written ∙ ap (λ n. n == 1) bit ∙ sym (ap (λ b. b || is_marked marks other) same.0)
      | inr apart ↦
          elsewhere (eqb_tells (other / 64) (at / 64)) apart.0 apart.1 there low
    ]
  where
    elsewhere :
        ((nat_eq (other / 64) (at / 64) ≡ true) × (other / 64 ≡ at / 64)) ⊎ ((nat_eq (other / 64) (at / 64) ≡ false) × (other / 64 ≢ at / 64))
        → nat_eq other at ≡ false → other ≢ at → at / 64 < length marks → at % 64 < 64
        → is_marked (slice_set marks (at / 64) (bit_or (get_or marks (at / 64) 0) (1 * 2 ^ (at % 64) % 18446744073709551616))) other
        ≡ (nat_eq other at || is_marked marks other)
    elsewhere (inl same) test apart there low =
        let differs : other % 64 ≢ at % 64 = λ e. apart (omega (arith, e, same.1)) in
        let new = bit_or (get_or marks (at / 64) 0) (1 * 2 ^ (at % 64) % 18446744073709551616) in
        let written : get_or (slice_set marks (at / 64) new) (other / 64) 0 ≡ new =
        ap (λ n. get_or (slice_set marks (at / 64) new) n 0) same.1 ∙ get_or-set_same marks (at / 64)
        new 0 there in
        let bit = bit_at_set_other w64 (get_or marks (at / 64) 0) (at % 64) low (other % 64) differs in
        ap (λ n. bit_at n (other % 64) == 1) written ∙ ap (λ n. n == 1) bit ∙ ap (λ n. bit_at (get_or marks n 0) (other % 64) == 1) (sym same.1)
        ∙ sym (ap (λ b. b || is_marked marks other) test)
    elsewhere (inr away) test apart there low =
        ap (λ n. bit_at n (other % 64) == 1) (get_or-set_other marks (at / 64) (other / 64)
        (bit_or (get_or marks (at / 64) 0) (1 * 2 ^ (at % 64) % 18446744073709551616)) 0 away.1)
        ∙ sym (ap (λ b. b || is_marked marks other) test)

either : (a b c : ℕ) → c ≡ max a b → a < 2 → b < 2 → (c == 1) ≡ ((a == 1) || (b == 1))
either a b c e k l = grind (arith, nat_tests)

-- a bit of either number
pub bit_of_either : (a b i : ℕ) → (bit_at (bit_or a b) i == 1) ≡ ((bit_at a i == 1) || (bit_at b i == 1))
bit_of_either a b i = either (bit_at a i) (bit_at b i) _ (bit_at_or a b i) (bit_at-lt a i) (bit_at-lt b i)

-- the marks of either
pub joined :
    (old new others : List ℕ) (at : ℕ)
    → get_or new (at / 64) 0 ≡ bit_or (get_or old (at / 64) 0) (get_or others (at / 64) 0)
    → is_marked new at ≡ (is_marked old at || is_marked others at)
joined old new others at e =
    ap (λ n. bit_at n (at % 64) == 1) e
    ∙ bit_of_either (get_or old (at / 64) 0) (get_or others (at / 64) 0) (at % 64)

-- the marks of either in one number
pub word_joined :
    (marks : List ℕ) (at more n : ℕ) → at < length marks → n / 64 ≡ at
    → is_marked (slice_set marks at (bit_or (get_or marks at 0) more)) n ≡ (is_marked marks n || (bit_at more (n % 64) == 1))
word_joined marks at more n there same =
    let new = bit_or (get_or marks at 0) more in
    let written : get_or (slice_set marks at new) (n / 64) 0 ≡ new = ap (λ w. get_or (slice_set marks at new) w 0)
    same ∙ get_or-set_same marks at new 0 there in
    ap (λ w. bit_at w (n % 64) == 1) written ∙ bit_of_either (get_or marks at 0) more (n % 64)
    ∙ ap (λ w. (bit_at (get_or marks w 0) (n % 64) == 1) || (bit_at more (n % 64) == 1)) (sym same)

-- the marks in all other numbers
pub word_other : (marks : List ℕ) (at new n : ℕ) → n / 64 ≢ at → is_marked (slice_set marks at new) n ≡ is_marked marks n
word_other marks at new n away = ap (λ w. bit_at w (n % 64) == 1) (get_or-set_other marks at (n / 64) new 0 away)

pub zeros : (n k : ℕ) → get_or (replicate {A = ℕ} n 0) k 0 ≡ 0
zeros zero k = refl
zeros (suc n) zero = refl
zeros (suc n) (suc k) = zeros n k

-- no marks
pub unmarked : (n at : ℕ) → is_marked (replicate n 0) at ≡ false
unmarked n at =
    let none : get_or (replicate {A = ℕ} n 0) (at / 64) 0 ≡ 0 = zeros n (at / 64) in
    let bit : bit_at 0 (at % 64) ≡ 0 = bit_at-zero (at % 64) in
    ap (λ (m : ℕ). bit_at m (at % 64) == 1) none ∙ ap (λ (m : ℕ). m == 1) bit

-- past the end of both there is nothing
pub past_end : (a b : List ℕ) (k : ℕ) → length a ≤ k → length b ≤ k → get_or a k 0 ≡ bit_or (get_or a k 0) (get_or b k 0)
past_end a b k h i = rw (get_or_past a k 0 h, get_or_past b k 0 i) refl
