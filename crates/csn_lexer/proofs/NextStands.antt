-- From each place of a text on something stands next: a token, a byte that begins none, or the end.
use Rattle.std.proofs.Common.{◌≡◌, ℕ, zero, suc, ◌+◌, ◌-◌, ◌<◌, ◌≤◌, Bool, true, false, ◌⊎◌, inl, inr, List, [], ◌∷◌}
use Rattle.std.proofs.Common.{length, slice_get, slice_index, slice_range, Option, Some, None, Result, Ok, Err, codes}
use Rattle.std.proofs.Common.{refl, sym, ◌∙◌, ap, subst, arith, eqb-true}
use Rattle.std.specs.Prelude.{if◌then◌else◌, nat_eq, IsFalse}
use Rattle.std.proofs.lemmas.Bool.{cases_Bool, cases_lt, cases_eq, and_parts}
use Rattle.std.proofs.lemmas.Option.{slice_get-get_or}
use Rattle.csn_lexer.specs.declared.gap.TheConstants.{LINE_FEED}
use Rattle.csn_lexer.specs.declared.token.TokenKind.{TokenKind}
use Rattle.csn_lexer.specs.declared.token.TokenKind.TheVariants.{Less, Greater, Colon, Define, Semicolon, BraceLeft}
use Rattle.csn_lexer.specs.declared.token.TokenKind.TheVariants.{BraceRight, Bar, Bang, Ampersand, Equal, ParenLeft}
use Rattle.csn_lexer.specs.declared.token.TokenKind.TheVariants.{ParenRight, Star, StarStar, SlashSlash, Plus, Word}
use Rattle.csn_lexer.specs.declared.token.Token.{Token}
use Rattle.csn_lexer.specs.declared.token.LexFault.{LexFault}
use Rattle.csn_lexer.specs.Word.{is_word}
use Rattle.csn_lexer.specs.Gap.{is_separator, BeginsComment, IsGap}
use Rattle.csn_lexer.specs.Gap.IsGap.{none as no_gap, separator as behind_separator, comment as behind_comment}
use Rattle.csn_lexer.specs.Spelling.{IsSpelled}
use Rattle.csn_lexer.specs.Tokens.{IsLongest, BeginsNoToken, IsNext, SomethingIsNext}
use Rattle.csn_lexer.proofs.OneKind.{same, starts_word, sign_of, kind_of, no_kind}
use Rattle.csn_lexer.proofs.Gaps.{comment_gap, join_gaps}

-- ---- kinds of token

same_is : (xs ys : List ℕ) → same xs ys ≡ true → xs ≡ ys
same_is [] [] h = refl
same_is [] (y ∷ ys) h = cc
same_is (x ∷ xs) [] h = cc
same_is (x ∷ xs) (y ∷ ys) h =
    let parts = and_parts (nat_eq x y) (same xs ys) h in
    let first : x ≡ y = eqb-true x y parts.0 in
    let rest : xs ≡ ys = same_is xs ys parts.1 in
    cc

-- the kind that a choice gives is spelled so
chosen : (bytes : List ℕ) (l : TokenKind) (b : Bool) (k : TokenKind) (other : Option TokenKind)
    → (if b then Some k else other) ≡ Some l → (b ≡ true → IsSpelled k bytes) → (other ≡ Some l → IsSpelled l bytes)
    → IsSpelled l bytes
chosen bytes l true k other e first second =
    let is : k ≡ l = cc in let P : TokenKind → Type 0 = λ m. IsSpelled m bytes in subst P is (first refl)
chosen bytes l false k other e first second = second e

sign_spelled : (bytes : List ℕ) (l : TokenKind) → sign_of bytes ≡ Some l → IsSpelled l bytes
sign_spelled bytes l e0 =
    chosen bytes l (same bytes (codes "<")) Less _ e0 (same_is bytes (codes "<"))
    (λ e1. chosen bytes l (same bytes (codes ">")) Greater _ e1 (same_is bytes (codes ">"))
    (λ e2. chosen bytes l (same bytes (codes ":")) Colon _ e2 (same_is bytes (codes ":"))
    (λ e3. chosen bytes l (same bytes (codes "::=")) Define _ e3 (same_is bytes (codes "::="))
    (λ e4. chosen bytes l (same bytes (codes ";")) Semicolon _ e4 (same_is bytes (codes ";"))
    (λ e5. chosen bytes l (same bytes (codes "{")) BraceLeft _ e5 (same_is bytes (codes "{"))
    (λ e6. chosen bytes l (same bytes (codes "}")) BraceRight _ e6 (same_is bytes (codes "}"))
    (λ e7. chosen bytes l (same bytes (codes "|")) Bar _ e7 (same_is bytes (codes "|"))
    (λ e8. chosen bytes l (same bytes (codes "!")) Bang _ e8 (same_is bytes (codes "!"))
    (λ e9. chosen bytes l (same bytes (codes "&")) Ampersand _ e9 (same_is bytes (codes "&"))
    (λ f0. chosen bytes l (same bytes (codes "=")) Equal _ f0 (same_is bytes (codes "="))
    (λ f1. chosen bytes l (same bytes (codes "(")) ParenLeft _ f1 (same_is bytes (codes "("))
    (λ f2. chosen bytes l (same bytes (codes ")")) ParenRight _ f2 (same_is bytes (codes ")"))
    (λ f3. chosen bytes l (same bytes (codes "*")) Star _ f3 (same_is bytes (codes "*"))
    (λ f4. chosen bytes l (same bytes (codes "**")) StarStar _ f4 (same_is bytes (codes "**"))
    (λ f5. chosen bytes l (same bytes (codes "//")) SlashSlash _ f5 (same_is bytes (codes "//"))
    (λ f6. chosen bytes l (same bytes (codes "+")) Plus _ f6 (same_is bytes (codes "+"))
    (λ f7. absurd (let clash : None ≡ Some l = f7 in cc))))))))))))))))))

kind_spelled : (bytes : List ℕ) (l : TokenKind) → kind_of bytes ≡ Some l → IsSpelled l bytes
kind_spelled bytes l e = go (starts_word bytes) e
  where
    go : (b : Bool) → (if b then (if is_word bytes then Some Word else None) else sign_of bytes) ≡ Some l → IsSpelled l bytes
    go true e = chosen bytes l (is_word bytes) Word None e (λ word. word) (λ none. absurd (let clash : None ≡ Some l = none in cc))
    go false e = sign_spelled bytes l e

-- ---- the longest token at a place

record TokenAt (text : List ℕ) (at : ℕ) : Type 0 where
  token : Token
  starts : token.start ≡ at
  longest : IsLongest text token

abbrev NoneFrom : List ℕ → ℕ → ℕ → Type 0
NoneFrom text at end = (m : ℕ) → end < m → m ≤ length text → (k : TokenKind) → ¬ IsSpelled k (slice_range text at m)

-- one place less to look at
one_fewer : (text : List ℕ) (at many : ℕ) → NoneFrom text at (at + suc many)
    → kind_of (slice_range text at (at + suc many)) ≡ None → NoneFrom text at (at + many)
one_fewer text at many further e m past few = elim (cases_eq m (at + suc many)) [
  | inl here ↦ (
      let P : ℕ → Type 0 = λ n. (k : TokenKind) → ¬ IsSpelled k (slice_range text at n) in
      subst P (sym here) (no_kind (slice_range text at (at + suc many)) e))
  | inr other ↦ further m (omega arith) few
]

token_here : (text : List ℕ) (at end : ℕ) → at < end → end ≤ length text → NoneFrom text at end
    → (o : Option TokenKind) → kind_of (slice_range text at end) ≡ o
    → (kind_of (slice_range text at end) ≡ None → TokenAt text at ⊎ BeginsNoToken text at)
    → TokenAt text at ⊎ BeginsNoToken text at
token_here text at end some within further None e later = later e
token_here text at end some within further (Some k) e later = inl (record {
  token = record { kind = k; start = at; end = end };
  starts = refl;
  longest = record { begins = some; within = within; spelled = kind_spelled (slice_range text at end) k e; longest = further };
})

token_to : (text : List ℕ) (at many : ℕ) → at + many ≤ length text → NoneFrom text at (at + many) → TokenAt text at ⊎ BeginsNoToken text at
token_to text at zero within further = inr (λ m past few. further m (omega arith) few)
token_to text at (suc many) within further =
    token_here text at (at + suc many) (omega arith) within further (kind_of (slice_range text at (at + suc many))) refl
    (λ e. token_to text at many (omega arith) (one_fewer text at many further e))

token_or_none : (text : List ℕ) (at : ℕ) → at ≤ length text → TokenAt text at ⊎ BeginsNoToken text at
token_or_none text at within =
    token_to text at (length text - at) (omega arith) (λ m past few. absurd (omega arith))

-- ---- gaps

-- where the line of a place ends
record LineEnd (text : List ℕ) (at : ℕ) : Type 0 where
  end : ℕ
  from : at ≤ end
  within : end ≤ length text
  line : (k : ℕ) → at ≤ k → k < end → slice_index text k ≡ LINE_FEED → ⊥
  ends : (end ≡ length text) ⊎ (slice_get text end ≡ Some LINE_FEED)

line_end : (text : List ℕ) (many at : ℕ) → at + many ≡ length text → LineEnd text at
line_end text zero at e = record { end = at; from = omega arith; within = omega arith; line = λ k low high. absurd (omega arith); ends = inl (omega arith) }
line_end text (suc many) at e = elim (cases_eq (slice_index text at) LINE_FEED) [
  | inl feed ↦ record {
    end = at;
    from = omega arith;
    within = omega arith;
    line = λ k low high. absurd (omega arith);
    ends = inr (slice_get-get_or text at 0 (omega arith) ∙ ap (λ c. Some c) feed);
  }
  | inr other ↦ (
      let rest = line_end text many (at + 1) (omega arith) in
      record {
        end = rest.end;
        from = omega (arith, rest.from);
        within = rest.within;
        line = λ k low high is. elim (cases_eq k at) [
          | inl here ↦ other (ap (slice_index text) (sym here) ∙ is)
          | inr later ↦ rest.line k (omega arith) high is
        ];
        ends = rest.ends;
      })
]

record GapEnd (text : List ℕ) (at : ℕ) : Type 0 where
  end : ℕ
  from : at ≤ end
  within : end ≤ length text
  gap : IsGap text at end
  stops : end < length text → IsFalse (is_separator (slice_index text end)) × (BeginsComment text end → ⊥)

comment_or_not : (text : List ℕ) (at : ℕ) → BeginsComment text at ⊎ (BeginsComment text at → ⊥)
comment_or_not text at = elim (cases_Bool (same (slice_range text at (at + 2)) (codes "--"))) [
  | inl is ↦ inl (same_is (slice_range text at (at + 2)) (codes "--") is)
  | inr other ↦ inr (λ begins. (let is : same (slice_range text at (at + 2)) (codes "--") ≡ true =
      ap (λ b. same b (codes "--")) begins in let clash : true ≡ false = sym is ∙ other in cc))
]

gap_then : (text : List ℕ) (at mid : ℕ) → at ≤ mid → IsGap text at mid → GapEnd text mid → GapEnd text at
gap_then text at mid low gap rest = record {
  end = rest.end;
  from = omega (arith, rest.from);
  within =
      rest.within;
  gap = join_gaps gap rest.gap;
  stops = rest.stops;
}

gap_end : (text : List ℕ) (fuel at : ℕ) → at ≤ length text → length text - at < fuel → GapEnd text at
gap_end text zero at within few = absurd (omega arith)
gap_end text (suc fuel) at within few = elim (cases_lt at (length text)) [
  | inr whole ↦ record { end = at; from = omega arith; within = within; gap = no_gap refl; stops = λ low. absurd (omega arith) }
  | inl inside ↦ elim (cases_Bool (is_separator (slice_index text at))) [
    | inl is ↦ gap_then text at (at + 1) (omega arith) (behind_separator inside is (no_gap refl)) (gap_end text fuel (at + 1) (omega arith) (omega arith))
    | inr other ↦ elim (comment_or_not text at) [
      | inl begins ↦ (
          let line = line_end text (length text - at) at (omega arith) in
          let comment = comment_gap text at line.end inside begins line.from line.within line.line line.ends in
          gap_then text at line.end line.from (behind_comment comment (no_gap refl)) (gap_end text fuel line.end line.within (omega (arith, comment.forward))))
      | inr not ↦ record { end = at; from = omega arith; within = within; gap = no_gap refl; stops = λ low. (other, not) }
    ]
  ]
]

-- ---- what stands next

token_next : {text : List ℕ} {at : ℕ} (g : GapEnd text at) → g.end < length text → TokenAt text g.end
    ⊎ BeginsNoToken text g.end → (next : Result (Option Token) LexFault) × IsNext text at next
token_next {text} {at} g inside (inl here) =
    (Ok (Some here.token), (subst (IsGap text at) (sym here.starts) g.gap, here.longest))
token_next g inside (inr nothing) =
    let stops = g.stops inside in
    (Err (record { place = g.end }), (g.gap, record { inside = inside; no_separator = stops.0; no_comment = stops.1; no_token = nothing }))

pub something_next : SomethingIsNext
something_next text at within =
    let g = gap_end text (suc (length text)) at within (omega arith) in
    elim (cases_lt g.end (length text)) [
      | inl inside ↦ token_next g inside (token_or_none text g.end g.within)
      | inr whole ↦ (Ok None, subst (IsGap text at) (let same : g.end ≡ length text = omega (arith, g.within, whole) in same) g.gap)
    ]
