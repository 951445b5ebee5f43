-- What a run of the reader over the tokens of a text shows of it.
use Rattle.std.proofs.Common.{◌≡◌, ℕ, List, [], ◌∷◌, ◌++◌, length, Option, Some, None, Ok, Err, refl, sym, ap, ◌∙◌, subst}
use Rattle.std.specs.Option.{option_and_then}
use Rattle.std.proofs.lemmas.List.{map-append}
use Rattle.csn_lexer.specs.declared.token.Token.{Token}
use Rattle.csn_lexer.specs.declared.token.LexFault.{LexFault}
use Rattle.csn_lexer.specs.Tokens.{IsNext, AreTokens, nothing, token as one}
use Rattle.csn_grammar.specs.declared.reader.state.Reader.{Reader}
use Rattle.csn_grammar.specs.RulesV.{RulesV}
use Rattle.csn_grammar.specs.TokenV.{TokenV, token_in, tokens_in}
use Rattle.csn_grammar.specs.Place.{HasRules, BeginRules, IsSyntaxPlace, refused_token, refused_byte, refused_end}
use Rattle.csn_grammar.proofs.Run.{token_step, run, ends, parse, start}
use Rattle.csn_grammar.proofs.CompleteRules.{complete}
use Rattle.csn_grammar.proofs.SoundRules.{sound}
use Rattle.csn_grammar.proofs.Alive.{alive}

then_none : {X Y : Type 0} (o : Option X) (f : X → Option Y) → o ≡ None → option_and_then f o ≡ None
then_none o f e = ap (option_and_then f) e

run-append : (ts us : List TokenV) (r : Reader) → run r (ts ++ us) ≡ option_and_then (λ q. run q us) (run r ts)
run-append [] us r = refl
run-append (t ∷ ts) us r = step_append (token_step r t) (run-append ts us)
  where
    step_append : (o : Option Reader) → ((q : Reader) → run q (ts ++ us) ≡ option_and_then (λ q. run q us) (run q ts))
        → option_and_then (λ q. run q (ts ++ us)) o ≡ option_and_then (λ q. run q us) (option_and_then (λ q. run q ts) o)
    step_append None h = refl
    step_append (Some q) h = h q

-- tokens over which the reader runs begin some rules
pub begins : (ts : List TokenV) (r : Reader) → run start ts ≡ Some r → BeginRules ts
begins ts r h =
    let more = alive r in (
      more.0,
      more.1,
      sound (ts ++ more.0) more.1 (ap (option_and_then ends) (run-append ts more.0 start ∙ ap (option_and_then (λ q. run q more.0)) h) ∙ more.2),
    )

-- tokens over which it does not run begin none
pub begins_none : (ts : List TokenV) → run start ts ≡ None → ¬ BeginRules ts
begins_none ts none (more, rules, are) =
    let stopped : parse start (ts ++ more) ≡ None =
    ap (option_and_then ends) (run-append ts more start ∙ ap (option_and_then (λ q. run q more)) none) in
    let read = complete are in absurd (cc)

-- one more token
pub run_push : (ts : List TokenV) (t : TokenV) (r : Reader) → run start ts ≡ Some r → run start (ts ++ t ∷ []) ≡ token_step r t
run_push ts t r h = run-append ts (t ∷ []) start ∙ ap (option_and_then (λ q. run q (t ∷ []))) h ∙ last (token_step r t)
  where
    last : (o : Option Reader) → option_and_then (λ q. run q []) o ≡ o
    last None = refl
    last (Some q) = refl

pub tokens_push : {text : List ℕ} {at to : ℕ} {ts : List Token} (t : Token) → AreTokens text at ts to → IsNext text to (Ok (Some t))
    → AreTokens text at (ts ++ t ∷ []) t.end
tokens_push {text} t (nothing e) next = one (subst (λ n. IsNext text n (Ok (Some t))) (sym e) next) (nothing refl)
tokens_push t (one first rest) next = one first (tokens_push t rest next)

-- how far the reader has come in a text
pub record IsRead (text : List ℕ) (to : ℕ) (r : Reader) : Type 0 where
  pub front : List Token
  pub tokens : AreTokens text 0 front to
  pub ran : run start (tokens_in text front) ≡ Some r

pub read_none : (text : List ℕ) → IsRead text 0 start
read_none text = record { front = []; tokens = nothing refl; ran = refl }

pub read_more : {text : List ℕ} {to : ℕ} {r : Reader} (t : Token) (q : Reader) → IsRead text to r → IsNext text to (Ok (Some t))
    → token_step r (token_in text t) ≡ Some q → IsRead text t.end q
read_more {text} {r = r} t q h next step = record {
  front = h.front ++ t ∷ [];
  tokens = tokens_push t h.tokens next;
  ran = ap (run start) (map-append (token_in text) h.front (t ∷ [])) ∙ run_push (tokens_in text h.front) (token_in text t) r h.ran ∙ step;
}

pub token_refused : {text : List ℕ} {to : ℕ} {r : Reader} (t : Token) → IsRead text to r → IsNext text to (Ok (Some t))
    → token_step r (token_in text t) ≡ None → IsSyntaxPlace text t.start
token_refused {text} {r = r} t h next step =
    refused_token t h.tokens (begins (tokens_in text h.front) r h.ran) next
    (begins_none (tokens_in text (h.front ++ t ∷ []))
    (ap (run start) (map-append (token_in text) h.front (t ∷ [])) ∙ run_push (tokens_in text h.front) (token_in text t) r h.ran ∙ step))

pub byte_refused : {text : List ℕ} {to : ℕ} {r : Reader} (fault : LexFault) → IsRead text to r → IsNext text to (Err fault) → IsSyntaxPlace text fault.place
byte_refused {text} {r = r} fault h next = refused_byte fault h.tokens (begins (tokens_in text h.front) r h.ran) next

pub end_refused : {text : List ℕ} {to : ℕ} {r : Reader} → IsRead text to r → IsNext text to (Ok None) → ends r ≡ None → IsSyntaxPlace text (length text)
end_refused {text} {r = r} h next none =
    refused_end h.tokens (begins (tokens_in text h.front) r h.ran) next
    (λ rules are. let read = complete are in let stopped = ap (option_and_then ends) h.ran ∙ none in absurd (cc)) refl

pub has_rules : {text : List ℕ} {to : ℕ} {r : Reader} (rules : RulesV) → IsRead text to r → IsNext text to (Ok None)
    → ends r ≡ Some rules → HasRules text rules
has_rules {text} {to} {r} rules h next some = record {
  tokens = h.front;
  read = record { to = to; tokens = h.tokens; stop = next };
  are = sound (tokens_in text h.front) rules (ap (option_and_then ends) h.ran ∙ some);
}
