-- The marks of some words that begin keys, from those of the words with one bit more.
use Rattle.std.proofs.Common.{◌≡◌, ℕ, ◌+◌, ◌-◌, ◌*◌, ◌/◌, ◌%◌, ◌^◌, ◌<◌, ◌≢◌, Bool, true, false, ◌||◌, nat_eq, eq-eqb}
use Rattle.std.proofs.Common.{List, length, get_or, refl, sym, ap, ◌∙◌, arith, inl, inr}
use Rattle.std.specs.Prelude.{bit_or, ◌==◌, slice_set}
use Rattle.std.specs.Int.{bit_at}
use Rattle.std.proofs.lemmas.Bool.{cases_lt, or_left, or_right}
use Rattle.std.proofs.lemmas.Bool.Decides.{nat_tests}
use Rattle.std.proofs.lemmas.Nat.{shl_whole}
use Rattle.csn_look.specs.KeyMarks.{is_marked}
use Rattle.csn_look.specs.KeySteps.{is_begun, MarksBetween}
use Rattle.csn_look.proofs.Tables.MarkFacts.{bit_of_either, word_joined, word_other}
use Rattle.csn_look.proofs.Tables.MarksHalved.{either_of, two_halved}

pub mark_is : (marks : List ℕ) (at k n : ℕ) → n / 64 ≡ at → n % 64 ≡ k → (bit_at (get_or marks at 0) k == 1) ≡ is_marked marks n
mark_is marks at k n e f = ap (λ w. bit_at (get_or marks w 0) k == 1) (sym e) ∙ ap (λ i. bit_at (get_or marks (n / 64) 0) i == 1) (sym f)

-- the marks of three kinds as one number
pub words_begun :
    (marks : List ℕ) (at k : ℕ) → k < 64
    → (bit_at (bit_or (get_or marks at 0) (bit_or (get_or marks (128 + at) 0) (get_or marks (256 + at) 0))) k == 1) ≡ is_begun marks (64 * at + k)
words_begun marks at k small =
    let one = get_or marks at 0 in
    let two = get_or marks (128 + at) 0 in
    let three = get_or marks (256 + at) 0 in
    bit_of_either one (bit_or two three) k ∙ ap (λ x. (bit_at one k == 1) || x) (bit_of_either two three k)
    ∙ ap (λ x. x || ((bit_at two k == 1) || (bit_at three k == 1))) (mark_is marks at k (64 * at + k) (omega arith) (omega arith))
    ∙ ap (λ x. is_marked marks (64 * at + k) || (x || (bit_at three k == 1))) (mark_is marks (128 + at) k (8192 + (64 * at + k)) (omega arith) (omega arith))
    ∙ ap (λ x. is_marked marks (64 * at + k) || (is_marked marks (8192 + (64 * at + k)) || x))
    (mark_is marks (256 + at) k (16384 + (64 * at + k)) (omega arith) (omega arith))

pair_begun :
    (marks : List ℕ) (word base k place : ℕ) → ((i : ℕ) → i < 64 → (bit_at word i == 1) ≡ is_begun marks (base + i)) → k < 32 → base + 2 * k ≡ 2 * place
    → either_of word k ≡ (is_begun marks (2 * place) || is_begun marks (2 * place + 1))
pair_begun marks word base k place are small e =
    let f : base + (2 * k + 1) ≡ 2 * place + 1 = omega arith in
    ap (λ x. x || (bit_at word (2 * k + 1) == 1)) (are (2 * k) (omega arith) ∙ ap (λ n. is_begun marks n) e)
    ∙ ap (λ x. is_begun marks (2 * place) || x) (are (2 * k + 1) (omega arith) ∙ ap (λ n. is_begun marks n) f)

-- the words with 64 places
pub words_between :
    (marks : List ℕ) (at low high a b : ℕ) → length marks ≡ 384 → at < 64 → a < 2 ^ 32 → b < 2 ^ 32
    → ((k : ℕ) → k < 64 → (bit_at low k == 1) ≡ is_begun marks (64 * (2 * at) + k))
    → ((k : ℕ) → k < 64 → (bit_at high k == 1) ≡ is_begun marks (64 * (2 * at + 1) + k))
    → ((k : ℕ) → k < 32 → (bit_at a k == 1) ≡ either_of low k)
    → ((k : ℕ) → k < 32 → (bit_at b k == 1) ≡ either_of high k)
    → MarksBetween (64 * at) (64 * at + 64) marks
    (slice_set marks (256 + at)
    (bit_or (get_or marks (256 + at) 0) (bit_or a (b * 2 ^ 32 % 18446744073709551616))))
words_between marks at low high a b size few small_a small_b lower upper halves others = record {
  inside = λ place from below.
      let k = place - 64 * at in
      let same : (16384 + place) / 64 ≡ 256 + at = omega arith in
      let bit : (16384 + place) % 64 ≡ k = omega arith in
      word_joined marks (256 + at) added (16384 + place) (omega arith) same
      ∙ ap (λ x. is_marked marks (16384 + place) || x)
      (ap (λ i. bit_at added i == 1) bit ∙ ap (λ n. bit_at (bit_or a n) k == 1) whole ∙ which place k (omega arith) (omega arith));
  before = λ n under. word_other marks (256 + at) _ n (λ e. omega arith);
  behind = λ n over. word_other marks (256 + at) _ n (λ e. omega arith);
}
  where
    added : ℕ
    added = bit_or a (b * 2 ^ 32 % 18446744073709551616)

    whole : b * 2 ^ 32 % 18446744073709551616 ≡ b * 2 ^ 32
    whole = shl_whole b 32 32 64 small_b (omega arith)

    which : (place k : ℕ) → 64 * at + k ≡ place → k < 64
        → (bit_at (bit_or a (b * 2 ^ 32)) k == 1) ≡ (is_begun marks (2 * place) || is_begun marks (2 * place + 1))
    which place k here within =
        let two = two_halved low high a b k small_a small_b halves others in
        elim (cases_lt k 32) [
          | inl first ↦ two.0 first ∙ pair_begun marks low (64 * (2 * at)) k place lower first (omega arith)
          | inr second ↦ two.1 second within ∙ pair_begun marks high (64 * (2 * at + 1)) (k - 32) place upper (omega arith) (omega arith)
        ]

-- one word

apart : (n m : ℕ) → n ≢ m → nat_eq n m ≡ false
apart n m h = grind (arith, nat_tests)

module _ (old : List ℕ) (place : ℕ) where
  pub start_set :
      (new : List ℕ) → ((n : ℕ) → is_marked new n ≡ (nat_eq n (16384 + place) || is_marked old n))
      → (is_begun old (2 * place) || is_begun old (2 * place + 1)) ≡ true
      → MarksBetween place (place + 1) old new
  start_set new set on = record {
    inside = λ p from below.
        let same : p ≡ place = omega arith in
        set (16384 + p) ∙ or_left (nat_eq (16384 + p) (16384 + place)) (is_marked old (16384 + p)) (eq-eqb (16384 + p) (16384 + place) (omega arith))
        ∙ sym (or_right (is_marked old (16384 + p)) (is_begun old (2 * p) || is_begun old (2 * p + 1))
        (ap (λ q. is_begun old (2 * q) || is_begun old (2 * q + 1)) same ∙ on));
    before = λ n under. set n ∙ ap (λ b. b || is_marked old n) (apart n (16384 + place) (λ e. omega arith));
    behind = λ n over. set n ∙ ap (λ b. b || is_marked old n) (apart n (16384 + place) (λ e. omega arith));
  }

  pub start_unset : (is_begun old (2 * place) || is_begun old (2 * place + 1)) ≡ false → MarksBetween place (place + 1) old old
  start_unset off = record {
    inside = λ p from below.
        let same : p ≡ place = omega arith in
        sym (none (is_marked old (16384 + p)) (is_begun old (2 * p) || is_begun old (2 * p + 1))
        (ap (λ q. is_begun old (2 * q) || is_begun old (2 * q + 1)) same ∙ off));
    before = λ n under. refl;
    behind = λ n over. refl;
  }
    where
      none : (b c : Bool) → c ≡ false → (b || c) ≡ b
      none true c e = refl
      none false c e = e
