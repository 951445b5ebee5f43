-- A text is read in one way.
use Rattle.std.proofs.Common.{◌≡◌, ℕ, ◌+◌, ◌<◌, true, List, ◌∷◌, length, get_or, slice_range, Option, Some, None}
use Rattle.std.proofs.Common.{Result, Ok, Err, inl, inr, refl, sym, ap, ◌∙◌, subst, arith}
use Rattle.std.specs.Prelude.{nat_eq}
use Rattle.std.proofs.lemmas.Bool.{cases_order, or_cases, eqb-true}
use Rattle.std.proofs.lemmas.Option.{get_or_from_slice_get}
use Rattle.csn_lexer.specs.declared.token.TokenKind.{TokenKind}
use Rattle.csn_lexer.specs.declared.token.Token.{Token}
use Rattle.csn_lexer.specs.declared.token.LexFault.{LexFault}
use Rattle.csn_lexer.specs.Spelling.{IsSpelled}
use Rattle.csn_lexer.specs.Gap.{is_separator, BeginsComment, IsComment, IsGap}
use Rattle.csn_lexer.specs.Gap.IsGap.{none, separator, comment}
use Rattle.csn_lexer.specs.Tokens.{IsLongest, BeginsNothing, IsNext, AreTokens, stop_of, TextsAreReadInOneWay}
use Rattle.csn_lexer.specs.Tokens.AreTokens.{nothing, token}
use Rattle.csn_lexer.proofs.Pieces.{slice_range_more}
use Rattle.csn_lexer.proofs.OneKind.{kind_of, kind_is, one_kind}
use Rattle.csn_lexer.proofs.Gaps.{comment_byte}

-- neither a separator nor a comment stands here
pub record IsStill (text : List ℕ) (at : ℕ) : Type 0 where
  pub no_separator : at < length text → is_separator (get_or text at 0) ≡ true → ⊥
  pub no_comment : at < length text → BeginsComment text at → ⊥

separator_kind : (c : ℕ) (rest : List ℕ) → is_separator c ≡ true → kind_of (c ∷ rest) ≡ None
separator_kind c rest h = elim (or_cases _ _ h) [
  | inr return ↦ at_byte c 13 return refl
  | inl three ↦ elim (or_cases _ _ three) [
    | inr feed ↦ at_byte c 10 feed refl
    | inl two ↦ elim (or_cases _ _ two) [ inr tab ↦ at_byte c 9 tab refl | inl space ↦ at_byte c 32 space refl ]
  ]
]
  where
    at_byte : (c b : ℕ) → nat_eq c b ≡ true → kind_of (b ∷ rest) ≡ None → kind_of (c ∷ rest) ≡ None
    at_byte c b is at_b = subst (λ x. kind_of (x ∷ rest) ≡ None) (sym (eqb-true c b is)) at_b

still_at_token : (text : List ℕ) (t : Token) → IsLongest text t → IsStill text t.start
still_at_token text t l =
    let kind : kind_of (get_or text t.start 0 ∷ slice_range text (t.start + 1) t.end) ≡ Some t.kind =
    ap kind_of (sym (slice_range_more text t.start t.end l.begins l.within)) ∙ kind_is t.kind _ l.spelled in
    record {
      no_separator = λ inside is. let nothing = separator_kind (get_or text t.start 0) (slice_range text (t.start + 1) t.end) is in absurd (cc);
      no_comment = λ inside begins. let dash : get_or text t.start 0 ≡ 45 = comment_byte text t.start inside begins in
          let nothing : kind_of (45 ∷ slice_range text (t.start + 1) t.end) ≡ None = refl in absurd (cc);
    }

comments_end : {text : List ℕ} {at m n : ℕ} → IsComment text at m → IsComment text at n → m < n → ⊥
comments_end {text} {at} {m} {n} c d less = elim c.ends [
  | inl whole ↦ omega (arith, d.within)
  | inr feed ↦ d.one_line m (omega (arith, c.forward)) less (get_or_from_slice_get text m 10 0 feed)
]

one_comment : {text : List ℕ} {at m n : ℕ} → IsComment text at m → IsComment text at n → m ≡ n
one_comment {text} {at} {m} {n} c d = elim (cases_order m n) [
  | inl e ↦ e
  | inr other ↦ elim other [ inl less ↦ absurd (comments_end c d less) | inr less ↦ absurd (comments_end d c less) ]
]

separator_or_comment : (text : List ℕ) (at : ℕ) → at < length text → is_separator (get_or text at 0) ≡ true
    → BeginsComment text at → ⊥
separator_or_comment text at inside is begins =
    let dash = ap is_separator (comment_byte text at inside begins) in absurd (cc)

one_gap : {text : List ℕ} {at m n : ℕ} → IsGap text at m → IsGap text at n → IsStill text m → IsStill text n → m ≡ n
one_gap (none e) (none f) i j = sym e ∙ f
one_gap {text} (none e) (separator inside is rest) i j =
    let still = subst (IsStill text) (sym e) i in absurd (still.no_separator inside is)
one_gap {text} (none e) (comment c rest) i j =
    let still = subst (IsStill text) (sym e) i in absurd (still.no_comment (omega (arith, c.forward, c.within)) c.begins)
one_gap {text} (separator inside is rest) (none f) i j =
    let still = subst (IsStill text) (sym f) j in absurd (still.no_separator inside is)
one_gap (separator inside is rest) (separator inside' is' rest') i j = one_gap rest rest' i j
one_gap {text} {at} (separator inside is rest) (comment c rest') i j =
    absurd (separator_or_comment text at inside is c.begins)
one_gap {text} (comment c rest) (none f) i j =
    let still = subst (IsStill text) (sym f) j in absurd (still.no_comment (omega (arith, c.forward, c.within)) c.begins)
one_gap {text} {at} (comment c rest) (separator inside is rest') i j =
    absurd (separator_or_comment text at inside is c.begins)
one_gap {text} {at} {m} {n} (comment c rest) (comment d rest') i j =
    one_gap rest (subst (λ k. IsGap text k n) (sym (one_comment c d)) rest') i j

still_at_end : (text : List ℕ) → IsStill text (length text)
still_at_end text = record { no_separator = λ inside _. omega arith; no_comment = λ inside _. omega arith }

still_at_nothing : (text : List ℕ) (at : ℕ) → BeginsNothing text at → IsStill text at
still_at_nothing text at b = record {
  no_separator = λ inside is. let not = b.no_separator in absurd (cc);
  no_comment = λ inside begins. b.no_comment begins;
}

tokens_end : (text : List ℕ) (t u : Token) → IsLongest text t → IsLongest text u → t.start ≡ u.start → t.end < u.end → ⊥
tokens_end text t u l k same less =
    l.longest u.end less k.within u.kind (subst (λ n. IsSpelled u.kind (slice_range text n u.end)) (sym same) k.spelled)

one_token : (text : List ℕ) (t u : Token) → IsLongest text t → IsLongest text u → t.start ≡ u.start → t ≡ u
one_token text t u l k same =
    let ends : t.end ≡ u.end = elim (cases_order t.end u.end) [
      | inl e ↦ e
      | inr other ↦ elim other [
        | inl less ↦ absurd (tokens_end text t u l k same less)
        | inr less ↦ absurd (tokens_end text u t k l (sym same) less)
      ]
    ] in
    let kinds : t.kind ≡ u.kind = one_kind t.kind u.kind (slice_range text t.start t.end) l.spelled
    (subst (λ n. IsSpelled u.kind (slice_range text t.start n)) (sym ends)
    (subst (λ n. IsSpelled u.kind (slice_range text n u.end)) (sym same) k.spelled)) in
    same_token t.kind u.kind t.start u.start t.end u.end kinds same ends
  where
    same_token : (k k' : TokenKind) (s s' e e' : ℕ) → k ≡ k' → s ≡ s' → e ≡ e'
        → (let t : Token = record { kind = k; start = s; end = e } in t) ≡ record { kind = k'; start = s'; end = e' }
    same_token k k' s s' e e' p q r = cc

token_or_nothing : (text : List ℕ) (t : Token) (f : LexFault) → IsLongest text t → BeginsNothing text f.place
    → t.start ≡ f.place → ⊥
token_or_nothing text t f l b same =
    b.no_token t.end (omega (arith, l.begins)) l.within t.kind
    (subst (λ n. IsSpelled t.kind (slice_range text n t.end)) same l.spelled)

pub one_next : (text : List ℕ) (at : ℕ) (r s : Result (Option Token) LexFault) → IsNext text at r → IsNext text at s → r ≡ s
one_next text at (Ok None) (Ok None) g h = refl
one_next text at (Ok None) (Ok (Some u)) g h =
    let e = one_gap g h.0 (still_at_end text) (still_at_token text u h.1) in absurd (omega (arith, h.1.begins, h.1.within, e))
one_next text at (Ok None) (Err f) g h =
    let e = one_gap g h.0 (still_at_end text) (still_at_nothing text f.place h.1) in absurd (omega (arith, h.1.inside, e))
one_next text at (Ok (Some t)) (Ok None) g h =
    let e = one_gap h g.0 (still_at_end text) (still_at_token text t g.1) in absurd (omega (arith, g.1.begins, g.1.within, e))
one_next text at (Ok (Some t)) (Ok (Some u)) g h =
    ap (λ x. Ok (Some x)) (one_token text t u g.1 h.1 (one_gap g.0 h.0 (still_at_token text t g.1) (still_at_token text u h.1)))
one_next text at (Ok (Some t)) (Err f) g h = absurd (token_or_nothing text t f g.1 h.1
    (one_gap g.0 h.0 (still_at_token text t g.1) (still_at_nothing text f.place h.1)))
one_next text at (Err f) (Ok None) g h =
    let e = one_gap h g.0 (still_at_end text) (still_at_nothing text f.place g.1) in absurd (omega (arith, g.1.inside, e))
one_next text at (Err f) (Ok (Some u)) g h = absurd (token_or_nothing text u f h.1 g.1
    (one_gap h.0 g.0 (still_at_token text u h.1) (still_at_nothing text f.place g.1)))
one_next text at (Err f) (Err e) g h =
    let same : f.place ≡ e.place = one_gap g.0 h.0 (still_at_nothing text f.place g.1) (still_at_nothing text e.place h.1) in
    ap (λ n. let fault : LexFault = record { place = n } in Err fault) same

no_stop : (t : Token) (f : Option LexFault) → (let r : Result (Option Token) LexFault = Ok (Some t) in r) ≡ stop_of f → ⊥
no_stop t None e = absurd (cc)
no_stop t (Some f) e = absurd (cc)

one_list : {text : List ℕ} {at m n : ℕ} {ts us : List Token} → AreTokens text at ts m → AreTokens text at us n
    → (f g : Option LexFault) → IsNext text m (stop_of f) → IsNext text n (stop_of g) → (ts ≡ us) × (m ≡ n)
one_list (nothing e) (nothing d) f g h k = (refl, sym e ∙ d)
one_list {text} {at} (nothing e) (token {t = t} next rest) f g h k =
    absurd (no_stop t f (one_next text at (Ok (Some t)) (stop_of f) next (subst (λ n. IsNext text n (stop_of f)) (sym e) h)))
one_list {text} {at} (token {t = t} next rest) (nothing e) f g h k =
    absurd (no_stop t g (one_next text at (Ok (Some t)) (stop_of g) next (subst (λ n. IsNext text n (stop_of g)) (sym e) k)))
one_list {text} {at} {m} {n} (token {t = t} {ts = ts} next rest) (token {t = u} {ts = us} next' rest') f g h k =
    let same = one_next text at (Ok (Some t)) (Ok (Some u)) next next' in
    let tokens : t ≡ u = cc in
    let rest'' : AreTokens text t.end us n = subst (λ (x : Token). AreTokens text x.end us n) (sym tokens) rest' in
    let tails = one_list rest rest'' f g h k in
    (ap (λ x. x ∷ ts) tokens ∙ ap (λ x. u ∷ x) tails.0, tails.1)

same_stop : (f g : Option LexFault) → stop_of f ≡ stop_of g → f ≡ g
same_stop None None e = refl
same_stop None (Some g) e = absurd (cc)
same_stop (Some f) None e = absurd (cc)
same_stop (Some f) (Some g) e = cc

pub one_reading : TextsAreReadInOneWay
one_reading text ts us f g a b =
    let lists = one_list a.tokens b.tokens f g a.stop b.stop in (
      lists.0,
      same_stop f g (one_next text a.to (stop_of f) (stop_of g) a.stop
          (subst (λ n. IsNext text n (stop_of g)) (sym lists.1) b.stop)),
    )
