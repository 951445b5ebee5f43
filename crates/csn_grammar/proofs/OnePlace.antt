-- A text has rules or one place where it is wrong, and not both: from one place on its tokens are one list.
use Rattle.std.proofs.Common.{◌≡◌, ℕ, ◌⊎◌, inl, inr, List, [], ◌∷◌, ◌++◌, length, Option, Some, None, Result, Ok, Err}
use Rattle.std.proofs.Common.{refl, sym, ◌∙◌, ap, subst, append_assoc, append-nil}
use Rattle.std.proofs.lemmas.List.{map-append}
use Rattle.csn_lexer.specs.declared.token.Token.{Token}
use Rattle.csn_lexer.specs.declared.token.LexFault.{LexFault}
use Rattle.csn_lexer.specs.Tokens.{IsNext, AreTokens, nothing, token as one, OneIsNext}
use Rattle.csn_grammar.specs.RulesV.{RulesV}
use Rattle.csn_grammar.specs.TokenV.{token_in, tokens_in}
use Rattle.csn_grammar.specs.Grammar.{AreRules}
use Rattle.csn_grammar.specs.Place.{HasRules, BeginRules, IsSyntaxPlace, refused_token, refused_byte, refused_end}
use Rattle.csn_grammar.proofs.Reading.{tokens_push}

byte_no_token : (fault : LexFault) (t : Token) → (let r : Result (Option Token) LexFault = Err fault in r) ≡ Ok (Some t) → ⊥
byte_no_token fault t e = cc

end_no_token : (t : Token) → (let r : Result (Option Token) LexFault = Ok None in r) ≡ Ok (Some t) → ⊥
end_no_token t e = cc

-- no tokens lead nowhere
no_move : {text : List ℕ} {to end : ℕ} (back : List Token) → AreTokens text to back end → back ≡ [] → to ≡ end
no_move back (nothing e) none = e
no_move back (one first rest) none = absurd (cc)

-- what stands behind the last token that can follow, and the place that it has
abbrev place_of : List ℕ → Result (Option Token) LexFault → ℕ
place_of text (Ok None) = length text
place_of text (Ok (Some t)) = t.start
place_of text (Err fault) = fault.place

record Stopped (text : List ℕ) (place : ℕ) : Type 0 where
  to : ℕ
  front : List Token
  next : Result (Option Token) LexFault
  tokens : AreTokens text 0 front to
  begin : BeginRules (tokens_in text front)
  stands : IsNext text to next
  last : (back : List Token) (end : ℕ) → AreTokens text to back end → BeginRules (tokens_in text (front ++ back)) → back ≡ []
  place_is : place ≡ place_of text next

begins_front : (text : List ℕ) (front : List Token) (t : Token) (back : List Token)
    → BeginRules (tokens_in text (front ++ t ∷ back)) → BeginRules (tokens_in text (front ++ t ∷ []))
begins_front text front t back (more, rules, are) = (
  tokens_in text back ++ more,
  rules,
  subst (λ ts. AreRules ts rules) (ap (λ ts. ts ++ more) (ap (tokens_in text) (sym (append_assoc front (t ∷ []) back))
      ∙ map-append (token_in text) (front ++ t ∷ []) back) ∙ append_assoc (tokens_in text (front ++ t ∷ []))
      (tokens_in text back) more) are,
)

module _ (one_next : OneIsNext) where
  -- of two lists of tokens from one place on, one begins the other
  both_begin : {text : List ℕ} {at to end : ℕ} {ts us : List Token} → AreTokens text at ts to → AreTokens text at us end
      → ((back : List Token) × (us ≡ ts ++ back) × AreTokens text to back end) ⊎ ((back : List Token) × (ts ≡ us ++ back) × AreTokens text end back to)
  both_begin {text} {end = end} {us = us} (nothing e) all = inl (us, refl, subst (λ n. AreTokens text n us end) e all)
  both_begin {text} {to = to} (one {t = t} {ts = ts} first rest) (nothing e) =
      inr (t ∷ ts, refl, subst (λ n. AreTokens text n (t ∷ ts) to) e (one first rest))
  both_begin {text} {at} {end = end} (one {t = t} {ts = ts} first rest) (one {t = u} {ts = us} next more) =
      let same = one_next text at (Ok (Some t)) (Ok (Some u)) first next in
      let tokens : t ≡ u = cc in
      elim (both_begin rest (subst (λ (x : Token). AreTokens text x.end us end) (sym tokens) more)) [
        | inl behind ↦ inl (behind.0, ap (λ x. x ∷ us) (sym tokens) ∙ ap (λ x. t ∷ x) behind.1, behind.2)
        | inr behind ↦ inr (behind.0, ap (λ x. t ∷ x) behind.1 ∙ ap (λ x. x ∷ (us ++ behind.0)) tokens, behind.2)
      ]

  -- where no token is next, none stands behind
  none_behind : {text : List ℕ} {at to : ℕ} (next : Result (Option Token) LexFault) → IsNext text at next
      → ((t : Token) → next ≡ Ok (Some t) → ⊥) → (back : List Token) → AreTokens text at back to → back ≡ []
  none_behind next is other back (nothing e) = refl
  none_behind {text} {at} next is other back (one {t = t} first rest) = absurd (other t (one_next text at next (Ok (Some t)) is first))

  -- tokens of a text, and all of them: those begin these
  begin_all : {text : List ℕ} {at to end : ℕ} (ts us : List Token) → AreTokens text at ts to → AreTokens text at us end
      → IsNext text end (Ok None) → (back : List Token) × (us ≡ ts ++ back) × AreTokens text to back end
  begin_all ts us here all stop = elim (both_begin here all) [
    | inl behind ↦ behind
    | inr behind ↦ (
        let none = none_behind (Ok None) stop end_no_token behind.0 behind.2 in
        let same : ts ≡ us = behind.1 ∙ ap (λ b. us ++ b) none ∙ append-nil us in
        ([], sym same ∙ sym (append-nil ts), nothing (sym (no_move behind.0 behind.2 none))))
  ]

  -- a text with rules has no syntax fault
  pub no_fault : {text : List ℕ} {place : ℕ} {rules : RulesV} → HasRules text rules → IsSyntaxPlace text place → ⊥
  no_fault {text} {rules = rules} h (refused_token {front = front} t tokens begin next none) =
      let behind = begin_all (front ++ t ∷ []) h.tokens (tokens_push t tokens next) h.read.tokens h.read.stop in
      none (
        tokens_in text behind.0,
        rules,
        subst (λ ts. AreRules ts rules) (ap (tokens_in text) behind.1 ∙ map-append (token_in text) (front ++ t ∷ []) behind.0) h.are,
      )
  no_fault {text} h (refused_byte {to = to} {front = front} fault tokens begin next) =
      let behind = begin_all front h.tokens tokens h.read.tokens h.read.stop in
      let none = none_behind (Err fault) next (byte_no_token fault) behind.0 behind.2 in
      let stop = subst (λ n. IsNext text n (Ok None)) (sym (no_move behind.0 behind.2 none)) h.read.stop in
      let same = one_next text to (Err fault) (Ok None) next stop in absurd (cc)
  no_fault {text} {rules = rules} h (refused_end {front = front} tokens begin next none e) =
      let behind = begin_all front h.tokens tokens h.read.tokens h.read.stop in
      let empty = none_behind (Ok None) next end_no_token behind.0 behind.2 in
      none rules (subst (λ ts. AreRules (tokens_in text ts) rules) (behind.1 ∙ ap (λ b. front ++ b) empty ∙ append-nil front) h.are)

  -- where no token is next, none can follow
  no_more : {text : List ℕ} {to place : ℕ} {front : List Token} (next : Result (Option Token) LexFault)
      → ((t : Token) → next ≡ Ok (Some t) → ⊥) → AreTokens text 0 front to → BeginRules (tokens_in text front)
      → IsNext text to next → place ≡ place_of text next → Stopped text place
  no_more {to = to} {front = front} next other tokens begin stands is = record {
    to = to;
    front = front;
    next = next;
    tokens = tokens;
    begin = begin;
    stands = stands;
    place_is = is;
    last = λ back end are begins. none_behind next stands other back are;
  }

  stopped : {text : List ℕ} {place : ℕ} → IsSyntaxPlace text place → Stopped text place
  stopped {text} (refused_token {to = to} {front = front} t tokens begin next none) = record {
    to = to;
    front = front;
    next = Ok (Some t);
    tokens = tokens;
    begin = begin;
    stands = next;
    place_is = refl;
    last = λ back end are begins. ends back end are begins;
  }
    where
      ends : (back : List Token) (end : ℕ) → AreTokens text to back end → BeginRules (tokens_in text (front ++ back)) → back ≡ []
      ends back end (nothing e) begins = refl
      ends back end (one {t = u} {ts = us} first rest) begins =
          let same = one_next text to (Ok (Some t)) (Ok (Some u)) next first in
          let is : u ≡ t = cc in
          absurd (none (subst (λ x. BeginRules (tokens_in text (front ++ x ∷ []))) is (begins_front text front u us begins)))
  stopped (refused_byte fault tokens begin next) = no_more (Err fault) (byte_no_token fault) tokens begin next refl
  stopped (refused_end tokens begin next none e) = no_more (Ok None) end_no_token tokens begin next e

  one_stop : {text : List ℕ} {place other : ℕ} (a : Stopped text place) (b : Stopped text other) (back : List Token)
      → b.front ≡ a.front ++ back → AreTokens text a.to back b.to → place ≡ other
  one_stop {text} a b back is are =
      let none : back ≡ [] = a.last back b.to are (subst (λ ts. BeginRules (tokens_in text ts)) is b.begin) in
      let same : a.to ≡ b.to = no_move back are none in
      let next = one_next text b.to a.next b.next (subst (λ n. IsNext text n a.next) same a.stands) b.stands in
      a.place_is ∙ ap (place_of text) next ∙ sym b.place_is

  pub one_place : (text : List ℕ) (place other : ℕ) → IsSyntaxPlace text place → IsSyntaxPlace text other → place ≡ other
  one_place text place other left right =
      let a = stopped left in
      let b = stopped right in
      elim (both_begin a.tokens b.tokens) [
        | inl behind ↦ one_stop a b behind.0 behind.1 behind.2
        | inr behind ↦ sym (one_stop b a behind.0 behind.1 behind.2)
      ]
