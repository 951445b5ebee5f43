-- The longest token that stands at a place, by its first bytes.
use Rattle.std.proofs.Common.{◌≡◌, ℕ, ◌+◌, ◌<◌, ◌≤◌, true, false, List, [], ◌∷◌, length, get_or, slice_get}
use Rattle.std.proofs.Common.{slice_range, Some, None, ◌⊎◌, inl, inr, refl, sym, ap, ◌∙◌, subst, arith}
use Rattle.std.specs.Prelude.{nat_eq}
use Rattle.std.proofs.lemmas.Bool.{cases_lt, ne_eqb}
use Rattle.std.proofs.lemmas.Option.{get_or_from_slice_get, slice_get-get_or, slice_get_within}
use Rattle.csn_lexer.specs.declared.token.Token.{Token}
use Rattle.csn_lexer.specs.declared.token.TokenKind.{TokenKind}
use Rattle.csn_lexer.specs.declared.token.TokenKind.TheVariants.{Colon, Define, Star, StarStar, SlashSlash, Word}
use Rattle.csn_lexer.specs.Word.{begins_word, is_word_tail}
use Rattle.csn_lexer.specs.Spelling.{IsSpelled}
use Rattle.csn_lexer.specs.Symbol.{StandsAlone, BeginsNoSign}
use Rattle.csn_lexer.specs.Tokens.{IsLongest, IsTokenAt, BeginsNoToken}
use Rattle.csn_lexer.proofs.Pieces.{slice_range_more, slice_range_none}
use Rattle.csn_lexer.proofs.OneKind.{kind_of, no_kind, stars_more, slashes_more, define_more, star_more, slash_more, colon_more, colons_more, word_more}

one : (text : List ℕ) (at : ℕ) → at < length text → slice_range text at (at + 1) ≡ get_or text at 0 ∷ []
one text at inside =
    slice_range_more text at (at + 1) (omega arith) (omega arith) ∙ ap (λ r. get_or text at 0 ∷ r) (slice_range_none text (at + 1))

two : (text : List ℕ) (at m : ℕ) → at + 1 < m → m ≤ length text
    → slice_range text at m ≡ get_or text at 0 ∷ get_or text (at + 1) 0 ∷ slice_range text (at + 2) m
two text at m below within =
    slice_range_more text at m (omega arith) within
    ∙ ap (λ r. get_or text at 0 ∷ r) (slice_range_more text (at + 1) m below within)
    ∙ ap (λ n. get_or text at 0 ∷ get_or text (at + 1) 0 ∷ slice_range text n m) (omega arith)

three : (text : List ℕ) (at m : ℕ) → at + 2 < m → m ≤ length text
    → slice_range text at m ≡ get_or text at 0 ∷ get_or text (at + 1) 0 ∷ get_or text (at + 2) 0 ∷ slice_range text (at + 3) m
three text at m below within =
    two text at m (omega arith) within
    ∙ ap (λ r. get_or text at 0 ∷ get_or text (at + 1) 0 ∷ r) (slice_range_more text (at + 2) m below within)
    ∙ ap (λ n. get_or text at 0 ∷ get_or text (at + 1) 0 ∷ get_or text (at + 2) 0 ∷ slice_range text n m) (omega arith)

four : (text : List ℕ) (at m : ℕ) → at + 3 < m → m ≤ length text
    → slice_range text at m ≡ get_or text at 0 ∷ get_or text (at + 1) 0 ∷ get_or text (at + 2) 0 ∷ get_or text (at + 3) 0 ∷ slice_range text (at + 4) m
four text at m below within =
    three text at m (omega arith) within
    ∙ ap (λ r. get_or text at 0 ∷ get_or text (at + 1) 0 ∷ get_or text (at + 2) 0 ∷ r) (slice_range_more text (at + 3) m below within)
    ∙ ap (λ n. get_or text at 0 ∷ get_or text (at + 1) 0 ∷ get_or text (at + 2) 0 ∷ get_or text (at + 3) 0 ∷ slice_range text n m) (omega arith)

-- no kind has a piece that is these bytes
none_at : (text : List ℕ) (at m : ℕ) (bytes : List ℕ) → slice_range text at m ≡ bytes → kind_of bytes ≡ None
    → (k : TokenKind) → ¬ IsSpelled k (slice_range text at m)
none_at text at m bytes is none = no_kind (slice_range text at m) (ap kind_of is ∙ none)

-- the byte at a place is not this one
other_byte : (text : List ℕ) (at b : ℕ) → at < length text → (slice_get text at ≡ Some b → ⊥) → nat_eq (get_or text at 0) b ≡ false
other_byte text at b inside differs =
    ne_eqb (get_or text at 0) b (λ e. differs (slice_get-get_or text at 0 inside ∙ ap (λ x. Some x) e))

-- a token that begins where it is looked for
pub token_here : {text : List ℕ} {at end : ℕ} {k : TokenKind} {t : Token} → t ≡ record { kind = k; start = at; end = end }
    → IsLongest text (record { kind = k; start = at; end = end }) → IsTokenAt text at t
token_here {text = text} is longest = (ap (λ (t : Token). t.start) is, subst (IsLongest text) (sym is) longest)

pub lone_longest : (text : List ℕ) (k : TokenKind) (at : ℕ) → at < length text → StandsAlone k (get_or text at 0)
    → IsLongest text (record { kind = k; start = at; end = at + 1 })
lone_longest text k at inside alone = record {
  begins = omega arith;
  within = omega arith;
  spelled = subst (IsSpelled k) (sym (one text at inside)) alone.spelled;
  longest = λ m past within l. subst (λ b. ¬ IsSpelled l b) (sym (two text at m past within)) (alone.alone l _ _);
}

pair : (text : List ℕ) (at : ℕ) → at + 1 < length text
    → slice_range text at (at + 2) ≡ get_or text at 0 ∷ get_or text (at + 1) 0 ∷ []
pair text at inside =
    two text at (at + 2) (omega arith) (omega arith)
    ∙ ap (λ r. get_or text at 0 ∷ get_or text (at + 1) 0 ∷ r) (slice_range_none text (at + 2))

triple : (text : List ℕ) (at : ℕ) → at + 2 < length text
    → slice_range text at (at + 3) ≡ get_or text at 0 ∷ get_or text (at + 1) 0 ∷ get_or text (at + 2) 0 ∷ []
triple text at inside =
    three text at (at + 3) (omega arith) (omega arith)
    ∙ ap (λ r. get_or text at 0 ∷ get_or text (at + 1) 0 ∷ get_or text (at + 2) 0 ∷ r) (slice_range_none text (at + 3))

-- two bytes that are one are a token, where with another behind them they are none
twice_longest : (k : TokenKind) (b : ℕ) → IsSpelled k (b ∷ b ∷ []) → ((z : ℕ) (rest : List ℕ) → kind_of (b ∷ b ∷ z ∷ rest) ≡ None)
    → (text : List ℕ) (at : ℕ) → get_or text at 0 ≡ b → slice_get text (at + 1) ≡ Some b
    → IsLongest text (record { kind = k; start = at; end = at + 2 })
twice_longest k b spells more text at first second =
    let room : at + 1 < length text = slice_get_within text (at + 1) b second in
    let again : get_or text (at + 1) 0 ≡ b = get_or_from_slice_get text (at + 1) b 0 second in
    let both : slice_range text at (at + 2) ≡ b ∷ b ∷ [] = pair text at room ∙ cc in
    record {
      begins = omega arith;
      within = omega arith;
      spelled = subst (IsSpelled k) (sym both) spells;
      longest = λ m past within. none_at text at m (b ∷ b ∷ get_or text (at + 2) 0 ∷ slice_range text (at + 3) m)
          (three text at m past within ∙ cc) (more (get_or text (at + 2) 0) (slice_range text (at + 3) m));
    }

pub stars_longest : (text : List ℕ) (at : ℕ) → get_or text at 0 ≡ 42 → slice_get text (at + 1) ≡ Some 42
    → IsLongest text (record { kind = StarStar; start = at; end = at + 2 })
stars_longest = twice_longest StarStar 42 refl stars_more

pub star_longest : (text : List ℕ) (at : ℕ) → at < length text → get_or text at 0 ≡ 42
    → (slice_get text (at + 1) ≡ Some 42 → ⊥)
    → IsLongest text (record { kind = Star; start = at; end = at + 1 })
star_longest text at inside star other = record {
  begins = omega arith;
  within = omega arith;
  spelled = one text at inside ∙ cc;
  longest = λ m past within. none_at text at m (42 ∷ get_or text (at + 1) 0 ∷ slice_range text (at + 2) m)
      (two text at m past within ∙ cc)
      (star_more (get_or text (at + 1) 0) (slice_range text (at + 2) m) (other_byte text (at + 1) 42 (omega arith) other));
}

pub slashes_longest : (text : List ℕ) (at : ℕ) → get_or text at 0 ≡ 47 → slice_get text (at + 1) ≡ Some 47
    → IsLongest text (record { kind = SlashSlash; start = at; end = at + 2 })
slashes_longest = twice_longest SlashSlash 47 refl slashes_more

pub slash_none : (text : List ℕ) (at : ℕ) → at < length text → get_or text at 0 ≡ 47
    → (slice_get text (at + 1) ≡ Some 47 → ⊥) → BeginsNoToken text at
slash_none text at inside slash other m past within =
    elim (cases_lt (at + 1) m) [
      | inl more ↦ none_at text at m (47 ∷ get_or text (at + 1) 0 ∷ slice_range text (at + 2) m)
          (two text at m more within ∙ cc)
          (slash_more (get_or text (at + 1) 0) (slice_range text (at + 2) m) (other_byte text (at + 1) 47 (omega arith) other))
      | inr less ↦ let lone : m ≡ at + 1 = omega arith in
          none_at text at m (47 ∷ []) (ap (slice_range text at) lone ∙ one text at inside ∙ cc) refl
    ]

pub define_longest : (text : List ℕ) (at : ℕ) → get_or text at 0 ≡ 58 → slice_get text (at + 1) ≡ Some 58
    → slice_get text (at + 2) ≡ Some 61
    → IsLongest text (record { kind = Define; start = at; end = at + 3 })
define_longest text at colon second third =
    let room : at + 2 < length text = slice_get_within text (at + 2) 61 third in
    let again : get_or text (at + 1) 0 ≡ 58 = get_or_from_slice_get text (at + 1) 58 0 second in
    let equal : get_or text (at + 2) 0 ≡ 61 = get_or_from_slice_get text (at + 2) 61 0 third in
    record {
      begins = omega arith;
      within = omega arith;
      spelled = triple text at room ∙ cc;
      longest = λ m past within. none_at text at m (58 ∷ 58 ∷ 61 ∷ get_or text (at + 3) 0 ∷ slice_range text (at + 4) m)
          (four text at m past within ∙ cc) (define_more (get_or text (at + 3) 0) (slice_range text (at + 4) m));
    }

-- what follows `:` is not `:=`
pub colon_longest : (text : List ℕ) (at : ℕ) → at < length text → get_or text at 0 ≡ 58
    → (slice_get text (at + 1) ≡ Some 58 → ⊥) ⊎ ((slice_get text (at + 1) ≡ Some 58) × (slice_get text (at + 2) ≡ Some 61 → ⊥))
    → IsLongest text (record { kind = Colon; start = at; end = at + 1 })
colon_longest text at inside colon other = record {
  begins = omega arith;
  within = omega arith;
  spelled = one text at inside ∙ cc;
  longest = λ m past within. elim other [
    | inl first ↦ none_at text at m (58 ∷ get_or text (at + 1) 0 ∷ slice_range text (at + 2) m)
        (two text at m past within ∙ cc)
        (colon_more (get_or text (at + 1) 0) (slice_range text (at + 2) m) (other_byte text (at + 1) 58 (omega arith) first))
    | inr both ↦ colons text at m past within colon both.0 both.1
  ];
}
  where
    colons : (text : List ℕ) (at m : ℕ) → at + 1 < m → m ≤ length text → get_or text at 0 ≡ 58
        → slice_get text (at + 1) ≡ Some 58 → (slice_get text (at + 2) ≡ Some 61 → ⊥)
        → (k : TokenKind) → ¬ IsSpelled k (slice_range text at m)
    colons text at m past within colon second third =
        let again : get_or text (at + 1) 0 ≡ 58 = get_or_from_slice_get text (at + 1) 58 0 second in
        elim (cases_lt (at + 2) m) [
          | inl more ↦ none_at text at m (58 ∷ 58 ∷ get_or text (at + 2) 0 ∷ slice_range text (at + 3) m)
              (three text at m more within ∙ cc)
              (colons_more (get_or text (at + 2) 0) (slice_range text (at + 3) m) (other_byte text (at + 2) 61 (omega arith) third))
          | inr less ↦ let lone : m ≡ at + 2 = omega arith in
              none_at text at m (58 ∷ 58 ∷ []) (ap (slice_range text at) lone ∙ pair text at (omega arith) ∙ cc) refl
        ]

pub word_longest : (text : List ℕ) (at end : ℕ) → at < length text → begins_word (get_or text at 0) ≡ true
    → at + 1 ≤ end → end ≤ length text → is_word_tail (slice_range text (at + 1) end) ≡ true
    → ((m : ℕ) → end < m → m ≤ length text → is_word_tail (slice_range text (at + 1) m) ≡ false)
    → IsLongest text (record { kind = Word; start = at; end = end })
word_longest text at end inside begins forward within tail longest = record {
  begins = omega arith;
  within = within;
  spelled = subst (IsSpelled Word) (sym (slice_range_more text at end (omega arith) within)) (rw (begins, tail) refl);
  longest = λ m past inside'. none_at text at m (get_or text at 0 ∷ slice_range text (at + 1) m)
      (slice_range_more text at m (omega arith) inside')
      (word_more (get_or text at 0) (slice_range text (at + 1) m) begins (longest m past inside'));
}

-- a byte that begins no sign and no word begins no token
pub no_token : (text : List ℕ) (at : ℕ) → at < length text → BeginsNoSign (get_or text at 0)
    → (get_or text at 0 ≡ 58 → ⊥) → (get_or text at 0 ≡ 42 → ⊥) → (get_or text at 0 ≡ 47 → ⊥)
    → begins_word (get_or text at 0) ≡ false → BeginsNoToken text at
no_token text at inside none colon star slash word m past within k =
    subst (λ b. ¬ IsSpelled k b) (sym (slice_range_more text at m past within)) (none colon star slash word k (slice_range text (at + 1) m))
