-- Patterns meet exactly where some of their words begin with one another.
use Rattle.std.proofs.Common.{◌≡◌, ℕ, zero, suc, Bool, true, List, [], ◌∷◌, ◌++◌, inl, inr, refl, sym, ap, subst, arith, Some, slice_get}
use Rattle.std.specs.Prelude.{◌⊎◌}
use Rattle.std.proofs.lemmas.Bool.Decides.{nat_tests}
use Rattle.csn_cert.specs.declared.pattern.Mark.{Mark}
use Rattle.csn_cert.specs.declared.pattern.Mark.TheVariants.{Zero, One, Any}
use Rattle.csn_cert.specs.PatternV.{PatternV}
use Rattle.csn_claims.specs.Conflicts.{IsBegunBy}
use Rattle.csn_good.specs.ClaimedSets.{marks_bit, mark_bits, denotes}
use Rattle.csn_good.specs.Apart.{MarksMeet, PatternsMeet}
use Rattle.csn_good.proofs.Denoting.{both_true, and_both, says}

-- ---- from words to marks

-- the bit of the word at the place of a mark
record BitAt (word : List ℕ) (k : ℕ) (a : Mark) : Type 0 where
  bit : ℕ
  at : slice_get word k ≡ Some bit
  stands : marks_bit a bit ≡ true

bit_at : (marks : List Mark) (word : List ℕ) (k : ℕ) (a : Mark) → mark_bits marks word ≡ true → slice_get marks k ≡ Some a → BitAt word k a
bit_at [] word k a holds at = absurd (cc)
bit_at (mark ∷ marks) [] k a holds at = absurd (cc)
bit_at (mark ∷ marks) (bit ∷ word) zero a holds at =
    let both = both_true (marks_bit mark bit) (mark_bits marks word) holds in
    let same : mark ≡ a = cc in
    let P : Mark → Type 0 = λ m. marks_bit m bit ≡ true in
    record { bit = bit; at = refl; stands = subst P same both.0 }
bit_at (mark ∷ marks) (bit ∷ word) (suc k) a holds at =
    let later = bit_at marks word k a (both_true (marks_bit mark bit) (mark_bits marks word) holds).1 at in
    record { bit = later.bit; at = later.at; stands = later.stands }

in_longer : (short rest : List ℕ) (k bit : ℕ) → slice_get short k ≡ Some bit → slice_get (short ++ rest) k ≡ Some bit
in_longer [] rest k bit at = absurd (cc)
in_longer (x ∷ short) rest zero bit at = at
in_longer (x ∷ short) rest (suc k) bit at = in_longer short rest k bit at

marks_agree : (a b : Mark) (bit : ℕ) → marks_bit a bit ≡ true → marks_bit b bit ≡ true → MarksMeet a b
marks_agree Any b bit left right = inl (inl refl)
marks_agree Zero Any bit left right = inl (inr refl)
marks_agree One Any bit left right = inl (inr refl)
marks_agree Zero Zero bit left right = inr refl
marks_agree One One bit left right = inr refl
marks_agree Zero One bit left right = absurd (grind (arith, nat_tests))
marks_agree One Zero bit left right = absurd (grind (arith, nat_tests))

same_bit : (long short : List ℕ) (k x y : ℕ) → IsBegunBy long short → slice_get long k ≡ Some x → slice_get short k ≡ Some y → x ≡ y
same_bit long short k x y begun at_x at_y =
    let here = in_longer short begun.0 k y at_y in
    let there = ap (λ word. slice_get word k) begun.1 in
    cc

pub words_meet : (p q : PatternV) (left right : List ℕ) (left_mark right_mark : Bool)
    → denotes p left left_mark ≡ true → denotes q right right_mark ≡ true → IsBegunBy left right
    ⊎ IsBegunBy right left → PatternsMeet p q
words_meet p q left right left_mark right_mark of_p of_q begun =
    record {
      marks = λ k a b at_a at_b.
          let x = bit_at p.marks left k a (says p left left_mark of_p).bits at_a in
          let y = bit_at q.marks right k b (says q right right_mark of_q).bits at_b in
          let same : x.bit ≡ y.bit = elim begun [
            | inl long ↦ same_bit left right k x.bit y.bit long x.at y.at
            | inr long ↦ sym (same_bit right left k y.bit x.bit long y.at x.at)
          ] in
          let P : ℕ → Type 0 = λ bit. marks_bit a bit ≡ true in
          marks_agree a b y.bit (subst P same x.stands) y.stands;
    }

-- ---- from marks to words

-- a bit that each of two marks stands for
record BitOfBoth (a b : Mark) : Type 0 where
  bit : ℕ
  left : marks_bit a bit ≡ true
  right : marks_bit b bit ≡ true

never_meet : {a b : Mark} → MarksMeet a b → (a ≡ Any → ⊥) → (b ≡ Any → ⊥) → (a ≡ b → ⊥) → ⊥
never_meet meet no_left no_right differ = elim meet [ inl any ↦ elim any [ inl left ↦ no_left left | inr right ↦ no_right right ] | inr same ↦ differ same ]

bit_of_both : (a b : Mark) → MarksMeet a b → BitOfBoth a b
bit_of_both Zero Zero meet = record { bit = 0; left = refl; right = refl }
bit_of_both Zero Any meet = record { bit = 0; left = refl; right = refl }
bit_of_both Any Zero meet = record { bit = 0; left = refl; right = refl }
bit_of_both Any Any meet = record { bit = 0; left = refl; right = refl }
bit_of_both One One meet = record { bit = 1; left = refl; right = refl }
bit_of_both One Any meet = record { bit = 1; left = refl; right = refl }
bit_of_both Any One meet = record { bit = 1; left = refl; right = refl }
bit_of_both Zero One meet = absurd (never_meet meet (λ e. absurd (cc)) (λ e. absurd (cc)) (λ e. absurd (cc)))
bit_of_both One Zero meet = absurd (never_meet meet (λ e. absurd (cc)) (λ e. absurd (cc)) (λ e. absurd (cc)))

-- a word of the marks
record WordOf (marks : List Mark) : Type 0 where
  word : List ℕ
  stands : mark_bits marks word ≡ true

meets_itself : (a : Mark) → MarksMeet a a
meets_itself a = inr refl

word_of : (marks : List Mark) → WordOf marks
word_of [] = record { word = []; stands = refl }
word_of (mark ∷ marks) =
    let bit = bit_of_both mark mark (meets_itself mark) in
    let later = word_of marks in
    record { word = bit.bit ∷ later.word; stands = and_both (marks_bit mark bit.bit) (mark_bits marks later.word) bit.left later.stands }

pub record MeetingWords (left right : List Mark) : Type 0 where
  pub left_word : List ℕ
  pub right_word : List ℕ
  pub left_stands : mark_bits left left_word ≡ true
  pub right_stands : mark_bits right right_word ≡ true
  pub begun : IsBegunBy left_word right_word ⊎ IsBegunBy right_word left_word

longer : (bit : ℕ) (left right : List ℕ) → IsBegunBy left right ⊎ IsBegunBy right left
    → IsBegunBy (bit ∷ left) (bit ∷ right) ⊎ IsBegunBy (bit ∷ right) (bit ∷ left)
longer bit left right (inl b) = inl (b.0, ap (λ l. bit ∷ l) b.1)
longer bit left right (inr b) = inr (b.0, ap (λ l. bit ∷ l) b.1)

meeting : (left right : List Mark) → ((k : ℕ) (a b : Mark) → slice_get left k ≡ Some a → slice_get right k ≡ Some b → MarksMeet a b) → MeetingWords left right
meeting [] right meet =
    let w = word_of right in
    record { left_word = []; right_word = w.word; left_stands = refl; right_stands = w.stands; begun = inr (w.word, refl) }
meeting (a ∷ left) [] meet =
    let w = word_of (a ∷ left) in
    record { left_word = w.word; right_word = []; left_stands = w.stands; right_stands = refl; begun = inl (w.word, refl) }
meeting (a ∷ left) (b ∷ right) meet =
    let bit = bit_of_both a b (meet 0 a b refl refl) in
    let later = meeting left right (λ k x y at_x at_y. meet (suc k) x y at_x at_y) in
    record {
      left_word = bit.bit ∷ later.left_word;
      right_word = bit.bit ∷ later.right_word;
      left_stands = and_both (marks_bit a bit.bit) (mark_bits left later.left_word) bit.left later.left_stands;
      right_stands = and_both (marks_bit b bit.bit) (mark_bits right later.right_word) bit.right later.right_stands;
      begun = longer bit.bit later.left_word later.right_word later.begun;
    }

pub words_of : (p q : PatternV) → PatternsMeet p q → MeetingWords p.marks q.marks
words_of p q meet = meeting p.marks q.marks meet.marks
