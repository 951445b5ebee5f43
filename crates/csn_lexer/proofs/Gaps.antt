-- Gaps one behind another, and a comment as one.
use Rattle.std.proofs.Common.{◌≡◌, ℕ, ◌+◌, ◌<◌, ◌≤◌, ◌≢◌, List, [], ◌∷◌, length, take, drop, get_or, slice_get}
use Rattle.std.proofs.Common.{slice_index, ◌-◌, Some, ◌⊎◌, inl, inr, sym, ap, ◌∙◌, subst, arith}
use Rattle.std.proofs.lemmas.Bool.{cases_lt}
use Rattle.std.proofs.lemmas.List.{drop_more}
use Rattle.std.proofs.lemmas.Option.{get_or_from_slice_get}
use Rattle.csn_lexer.specs.declared.gap.TheConstants.{LINE_FEED}
use Rattle.csn_lexer.specs.Gap.{BeginsComment, IsComment, IsGap}
use Rattle.csn_lexer.specs.Gap.IsGap.{none, separator, comment}

pub join_gaps : {text : List ℕ} {at mid to : ℕ} → IsGap text at mid → IsGap text mid to → IsGap text at to
join_gaps {text} {at} {mid} {to} (none e) g = subst (λ n. IsGap text n to) (sym e) g
join_gaps (separator inside is rest) g = separator inside is (join_gaps rest g)
join_gaps (comment c rest) g = comment c (join_gaps rest g)

-- a comment begins with `-`
pub comment_byte : (text : List ℕ) (at : ℕ) → at < length text → BeginsComment text at → get_or text at 0 ≡ 45
comment_byte text at inside begins =
    let two : (at + 2) - at ≡ 2 = omega arith in
    let cells : get_or text at 0 ∷ take 1 (drop (at + 1) text) ≡ 45 ∷ 45 ∷ [] =
    ap (take 2) (sym (drop_more text at 0 inside)) ∙ ap (λ n. take n (drop at text)) (sym two) ∙ begins in
    cc

-- a comment that begins here ends at the end of its line
pub comment_gap : (text : List ℕ) (at end : ℕ) → at < length text → BeginsComment text at
    → at ≤ end → end ≤ length text → ((k : ℕ) → at ≤ k → k < end → slice_index text k ≢ LINE_FEED)
    → (end ≡ length text) ⊎ (slice_get text end ≡ Some LINE_FEED)
    → IsComment text at end
comment_gap text at end inside begins from within line ends = record {
  begins = begins;
  forward = elim ends [
    | inl whole ↦ omega arith
    | inr feed ↦ let byte = comment_byte text at inside begins in let feed_byte = get_or_from_slice_get text end LINE_FEED 0 feed in
        elim (cases_lt at end) [
          | inl h ↦ h
          | inr past ↦ let same : end ≡ at = omega arith in absurd (omega (arith, byte, feed_byte, ap (λ n. get_or text n 0) same))
        ]
  ];
  within = within;
  one_line = line;
  ends = ends;
}
