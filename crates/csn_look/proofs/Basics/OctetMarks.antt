-- What the calls of a set of octet positions do to its marks.
use Rattle.std.proofs.Common.{◌≡◌, ℕ, ◌*◌, ◌/◌, ◌%◌, ◌^◌, ◌≤◌, true, ◌&&◌, ◌||◌, nat_eq, nat_le, refl, sym, ap, ◌∙◌, arith, inl, inr}
use Rattle.std.specs.Prelude.{bit_or, ◌==◌}
use Rattle.std.specs.Int.{bit_at}
use Rattle.std.specs.Cmp.{nat_cmp_total, unsigned_tied}
use Rattle.std.specs.FinSet as set
use Rattle.std.proofs.lemmas.Bool.{agree_below_at, eqb-true, le-leb}
use Rattle.std.proofs.lemmas.Bool.Decides.{eqb_tells}
use Rattle.std.proofs.Math.Bool.{and-true}
use Rattle.std.proofs.lemmas.Nat.Bits.{bit_at-lt, bit_at_or, bit_at-pow_same, bit_at-pow_other}
use Rattle.csn_look.specs.Marks.{marked, contains-marked}

power : (o : ℕ) → o ≤ 7 → 1 * 2 ^ o % 256 ≡ 2 ^ o
power o h = eqb-true _ _ (agree_below_at (λ n. 1 * 2 ^ n % 256 == 2 ^ n) (λ _. true) 8 o refl (omega (arith, h)))

more : (marks o q : ℕ) → o ≤ 7 → (bit_at (bit_or marks (2 ^ o)) q == 1 && nat_le q 7) ≡ (nat_eq q o || (bit_at marks q == 1 && nat_le q 7))
more marks o q small =
    elim (eqb_tells q o) [
      | inl same_number ↦
          let bit : bit_at (2 ^ o) q ≡ 1 = ap (bit_at (2 ^ o)) same_number.1 ∙ bit_at-pow_same o in
          let either : bit_at (bit_or marks (2 ^ o)) q ≡ 1 = bit_at_or marks (2 ^ o) q ∙ omega (arith, bit, bit_at-lt marks q) in
          let low : nat_le q 7 ≡ true = le-leb q 7 (omega arith) in
          rw (either, low, same_number.0) refl
      | inr apart ↦
          let bit : bit_at (2 ^ o) q ≡ 0 = bit_at-pow_other o q apart.1 in
          let same : bit_at (bit_or marks (2 ^ o)) q ≡ bit_at marks q = bit_at_or marks (2 ^ o) q ∙ omega (arith, bit) in
          rw (same, apart.0) refl
    ]

-- one mark more is one position more
pub marked-or : (marks o : ℕ) → o ≤ 7 → marked (bit_or marks (1 * 2 ^ o % 256)) ≡ set.insert (marked marks) o
marked-or marks o small =
    set.same_set nat_cmp_total set.nat_cmp-IsAntisymmetric _ _
    (λ q. ap (λ m. set.contains (marked (bit_or marks m)) q) (power o small)
    ∙ contains-marked (bit_or marks (2 ^ o)) q ∙ more marks o q small
    ∙ sym (set.contains-insert nat_cmp_total (marked marks) o q ∙ (λ i. unsigned_tied q o i || contains-marked marks q i)))

pub empty_marked : marked 0 ≡ set.empty
empty_marked = refl

pub has_marked : (marks o : ℕ) → o ≤ 7 → nat_eq (marks / 2 ^ o % 2) 1 ≡ set.contains (marked marks) o
has_marked marks o small =
    sym (contains-marked marks o ∙ ap (λ b. bit_at marks o == 1 && b) (le-leb o 7 small) ∙ and-true _)
