-- What the reader of a text answers, where from each place of the text one thing is next.
use Rattle.std.proofs.Common.{◌≡◌, ℕ, List, length, Option, Some, None, Result, Ok, Err, refl, sym, subst}
use Rattle.std.specs.Prelude.{IfOk, IfErr, IfSome}
use Rattle.csn_lexer.specs.declared.token.Token.{Token}
use Rattle.csn_lexer.specs.declared.token.LexFault.{LexFault}
use Rattle.csn_lexer.specs.Tokens.{IsNext, OneIsNext}
use Rattle.csn_lexer.specs.Answer.{OnToken}
use Rattle.csn_grammar.specs.declared.fault.GrammarFault.{GrammarFault}
use Rattle.csn_grammar.specs.declared.fault.GrammarFault.TheVariants.{Syntax, NoMemory}
use Rattle.csn_grammar.specs.declared.reader.state.Reader.{Reader}
use Rattle.csn_grammar.specs.Answers.{OnSyntax, HasNoRules}
use Rattle.csn_grammar.specs.RulesV.{RulesV}
use Rattle.csn_grammar.specs.Shaped.{AreShaped}
use Rattle.csn_grammar.specs.TokenV.{token_in}
use Rattle.csn_grammar.specs.Place.{HasRules, IsSyntaxPlace}
use Rattle.csn_grammar.specs.reader.Gives.{GivesAt}
use Rattle.csn_grammar.proofs.Run.{token_step, ends}
use Rattle.csn_grammar.proofs.Reading.{IsRead, token_refused, byte_refused, end_refused, has_rules}
use Rattle.csn_grammar.proofs.OnePlace.{no_fault}
use Rattle.csn_grammar.proofs.OfTexts.{text_shaped}

-- what an answer says of a text
pub record Says (text : List ℕ) (r : Result RulesV GrammarFault) : Type 0 where
  pub rules : IfOk r (HasRules text)
  pub shaped : IfOk r AreShaped
  pub none : IfErr r (λ fault. OnSyntax fault (λ place. HasNoRules text))
  pub place : IfErr r (λ fault. OnSyntax fault (IsSyntaxPlace text))

-- the rules that a text gives at its end are shaped
pub shaped_end : {text : List ℕ} {to : ℕ} {r : Reader} (o : Option RulesV) → IsRead text to r → IsNext text to (Ok None) → ends r ≡ o → IfSome o AreShaped
shaped_end None h next is = tt
shaped_end {text} (Some rules) h next is = text_shaped text rules (has_rules rules h next is)

module _ (one_next : OneIsNext) where
  refused : {text : List ℕ} {place at : ℕ} → at ≡ place → IsSyntaxPlace text place → Says text (Err (Syntax at))
  refused {text} same h =
      let place = subst (IsSyntaxPlace text) (sym same) h in
      record { rules = tt; shaped = tt; none = λ rules has. no_fault one_next has h; place = place }

  pub says_end : {text : List ℕ} {to : ℕ} {r : Reader} (a : Result RulesV GrammarFault) → IsRead text to r → IsNext text to (Ok None)
      → GivesAt (length text) a (ends r) → Says text a
  says_end {text} (Ok rules) h next gives =
      let has = has_rules rules h next gives in record { rules = has; shaped = text_shaped text rules has; none = tt; place = tt }
  says_end (Err (Syntax at)) h next gives = refused gives.0 (end_refused h next gives.1)
  says_end (Err NoMemory) h next gives = record { rules = tt; shaped = tt; none = tt; place = tt }

  pub says_token : {text : List ℕ} {to : ℕ} {r : Reader} (t : Token) (fault : GrammarFault) → IsRead text to r → IsNext text to (Ok (Some t))
      → GivesAt {X = Reader} t.start (Err fault) (token_step r (token_in text t)) → Says text (Err fault)
  says_token t (Syntax at) h next gives = refused gives.0 (token_refused t h next gives.1)
  says_token t NoMemory h next gives = record { rules = tt; shaped = tt; none = tt; place = tt }

  pub says_byte : {text : List ℕ} {to : ℕ} {r : Reader} (fault : LexFault) → IsRead text to r → IsNext text to (Err fault)
      → Says text (Err (Syntax fault.place))
  says_byte fault h next = refused refl (byte_refused fault h next)

-- what a lexer says of its own text
pub next_of : {own text : List ℕ} (at : ℕ) {r s : Result (Option Token) LexFault} → own ≡ text → r ≡ s → IsNext own at r → IsNext text at s
next_of {own} {text} at {r} {s} same is h = subst (λ t. IsNext t at s) same (subst (IsNext own at) is h)

pub moves_of : (to : ℕ) (t : Token) {r : Result (Option Token) LexFault} → r ≡ Ok (Some t) → OnToken r (λ u. to ≡ u.end) → to ≡ t.end
moves_of to t is h = subst (λ r. OnToken r (λ u. to ≡ u.end)) is h
