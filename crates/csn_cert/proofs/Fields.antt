-- Patterns have the same text exactly where they are kept in the same fields.
use Rattle.std.proofs.Common.{◌≡◌, ℕ, Bool, true, true≢false, List, [], ◌++◌, take, length, refl, sym, ap, ◌∙◌, nat_eq, ◌&&◌}
use Rattle.std.proofs.lemmas.Bool.{and_parts}
use Rattle.std.proofs.lemmas.Bool.Decides.{Decides-eqb}
use Rattle.std.proofs.lemmas.Slice.Eq.{slice_eq-Decides, bytes_eq-Decides}
use Rattle.std.specs.Cmp.{both_ways, booleans_Decides}
use Rattle.std.specs.Cmp.Lexicographic.{pointwise}
use Rattle.std.specs.Bool.{Decides}
use mathlib.Core.Bool.{beq}
use Rattle.csn_cert.specs.declared.pattern.Mark.{Mark}
use Rattle.csn_cert.specs.declared.pattern.Mark.TheVariants.{Zero, One, Any}
use Rattle.csn_cert.specs.contracts.pattern.MarkPartialEq.TheImpl as of_marks
use Rattle.csn_cert.specs.PatternV.{PatternV, filled, IsFilled, filled_back}
use Rattle.csn_cert.specs.PatternText.{pattern_text}
use Rattle.csn_cert.proofs.Words.{patterns_differ}

-- how marks are told to be equal
abbrev pub same_mark : Mark → Mark → Bool
same_mark = of_marks.eq-value.it

marks_told : (a b : Mark) → Decides (same_mark a b) (a ≡ b)
marks_told Zero Zero = (λ _. refl, λ _. refl)
marks_told Zero One = (λ h. absurd (true≢false (sym h)), λ h. absurd (cc))
marks_told Zero Any = (λ h. absurd (true≢false (sym h)), λ h. absurd (cc))
marks_told One Zero = (λ h. absurd (true≢false (sym h)), λ h. absurd (cc))
marks_told One One = (λ _. refl, λ _. refl)
marks_told One Any = (λ h. absurd (true≢false (sym h)), λ h. absurd (cc))
marks_told Any Zero = (λ h. absurd (true≢false (sym h)), λ h. absurd (cc))
marks_told Any One = (λ h. absurd (true≢false (sym h)), λ h. absurd (cc))
marks_told Any Any = (λ _. refl, λ _. refl)

same_lists : (m n : List Mark) → Decides (pointwise same_mark m n) (m ≡ n)
same_lists m n = slice_eq-Decides marks_told m n (pointwise same_mark m n) refl

module _ (m n : List Mark) (j k : ℕ) (v w : Bool) (p q : PatternV) (m_is : record { marks = take j m; whole = v } ≡ p)
    (n_is : record { marks = take k n; whole = w } ≡ q) (is : IsFilled m j) (is' : IsFilled n k) where
  same_values : (nat_eq j k && beq v w) && pointwise same_mark m n ≡ true → p ≡ q
  same_values told =
      let parts = and_parts (nat_eq j k && beq v w) (pointwise same_mark m n) told in
      let front = and_parts (nat_eq j k) (beq v w) parts.0 in
      let marks : m ≡ n = (same_lists m n).0 parts.1 in
      let count : j ≡ k = (Decides-eqb j k).0 front.0 in
      let ends : v ≡ w = (booleans_Decides v w).0 front.1 in
      sym m_is ∙ (λ i. record { marks = take (count i) (marks i); whole = ends i }) ∙ n_is

  same_fields : p ≡ q → (nat_eq j k && beq v w) && pointwise same_mark m n ≡ true
  same_fields same =
      let values = m_is ∙ same ∙ sym n_is in
      let front : take j m ≡ take k n = ap (λ x. x.marks) values in
      let marks : m ≡ n = is.zeros ∙ ap filled front ∙ sym is'.zeros in
      let count : j ≡ k = sym (filled_back m j is).1 ∙ ap length front ∙ (filled_back n k is').1 in
      let ends : v ≡ w = ap (λ x. x.whole) values in
      λ i. ((Decides-eqb j k).1 count i && (booleans_Decides v w).1 ends i) && (same_lists m n).1 marks i

  pub fields_told : ((nat_eq j k && beq v w) && pointwise same_mark m n) ≡ pointwise nat_eq (pattern_text p) (pattern_text q)
  fields_told =
      both_ways ((nat_eq j k && beq v w) && pointwise same_mark m n) (pointwise nat_eq (pattern_text p) (pattern_text q))
      (λ told. (bytes_eq-Decides (pattern_text p) (pattern_text q)).1 (ap pattern_text (same_values told)))
      (λ told. same_fields (patterns_differ p q [] [] (ap (λ l. l ++ []) ((bytes_eq-Decides (pattern_text p) (pattern_text q)).0 told))).0)
