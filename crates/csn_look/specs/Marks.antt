-- A set of octet positions as the marks of a number: position p is in the set where bit p is 1.
use Rattle.std.specs.Prelude.{◌≡◌, ℕ, zero, suc, ◌+◌, ◌*◌, ◌<◌, true, if◌then◌else◌, ◌==◌, ◌&&◌, [], ◌∷◌, filter, nat_le, refl}
use Rattle.std.specs.Int.{bit_at}
use Rattle.std.specs.List.{list_any}
use Rattle.std.specs.Ordering.{nat_cmp}
use Rattle.std.specs.FinSet as set
use Rattle.std.proofs.Common.{nat_eq, ap, ◌∙◌, arith}
use Rattle.std.proofs.lemmas.Bool.{eqb-true}
use Rattle.std.proofs.lemmas.Bool.Decides.{nat_tests}
use Rattle.std.proofs.lemmas.Nat.Bits.{bit_at-lt}
use Rattle.std.proofs.lemmas.Map.Views.{any-filter_same}

-- the octet positions that are marked
abbrev pub marked : ℕ → set.FinSet nat_cmp
marked marks = set.from_list (filter (λ p. bit_at marks p == 1) (0 ∷ 1 ∷ 2 ∷ 3 ∷ 4 ∷ 5 ∷ 6 ∷ 7 ∷ []))

-- the mark of one position, where it is in the set
abbrev pub mark_of : set.FinSet nat_cmp → ℕ → ℕ → ℕ
mark_of positions p mark = if set.contains positions p then mark else 0

-- the number that marks a set's positions
abbrev pub marks_of : set.FinSet nat_cmp → ℕ
marks_of positions =
    mark_of positions 0 1 + mark_of positions 1 2 + mark_of positions 2 4 + mark_of positions 3 8
    + mark_of positions 4 16 + mark_of positions 5 32 + mark_of positions 6 64 + mark_of positions 7 128

eight : (p : ℕ) → list_any (λ y. nat_eq y p) (0 ∷ 1 ∷ 2 ∷ 3 ∷ 4 ∷ 5 ∷ 6 ∷ 7 ∷ []) ≡ nat_le p 7
eight zero = refl
eight (suc zero) = refl
eight (suc (suc zero)) = refl
eight (suc (suc (suc zero))) = refl
eight (suc (suc (suc (suc zero)))) = refl
eight (suc (suc (suc (suc (suc zero))))) = refl
eight (suc (suc (suc (suc (suc (suc zero)))))) = refl
eight (suc (suc (suc (suc (suc (suc (suc zero))))))) = refl
eight (suc (suc (suc (suc (suc (suc (suc (suc p)))))))) = grind (arith, nat_tests)

-- a position is among the marked ones where its bit is 1
pub contains-marked : (marks p : ℕ) → set.contains (marked marks) p ≡ (bit_at marks p == 1 && nat_le p 7)
contains-marked marks p =
    set.contains-from_list_nat _ p
    ∙ any-filter_same (λ y. nat_eq y p) (λ y. bit_at marks y == 1) (bit_at marks p == 1)
    (λ k same. ap (λ y. bit_at marks y == 1) (eqb-true k p same)) (0 ∷ 1 ∷ 2 ∷ 3 ∷ 4 ∷ 5 ∷ 6 ∷ 7 ∷ [])
    ∙ ap (λ b. bit_at marks p == 1 && b) (eight p)

-- the mark of a bit
mark_of_bit : (bit mark : ℕ) → bit < 2 → (if bit == 1 && true then mark else 0) ≡ bit * mark
mark_of_bit zero mark small = omega arith
mark_of_bit (suc zero) mark small = omega arith
mark_of_bit (suc (suc bit)) mark small = absurd (omega arith)

mark_of-marked : (marks p mark : ℕ) → nat_le p 7 ≡ true → mark_of (marked marks) p mark ≡ bit_at marks p * mark
mark_of-marked marks p mark small =
    ap (λ b. if b then mark else 0) (contains-marked marks p ∙ ap (λ b. bit_at marks p == 1 && b) small)
    ∙ mark_of_bit (bit_at marks p) mark (bit_at-lt marks p)

pub marks_of-marked : (marks : ℕ) → marks < 256 → marks_of (marked marks) ≡ marks
marks_of-marked marks small =
    let a = mark_of-marked marks 0 1 refl in
    let b = mark_of-marked marks 1 2 refl in
    let c = mark_of-marked marks 2 4 refl in
    let d = mark_of-marked marks 3 8 refl in
    let e = mark_of-marked marks 4 16 refl in
    let f = mark_of-marked marks 5 32 refl in
    let g = mark_of-marked marks 6 64 refl in
    let h = mark_of-marked marks 7 128 refl in
    rw (a, b, c, d, e, f, g, h) (omega arith)
