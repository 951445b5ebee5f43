-- Each text has rules, or a place where it is wrong.
use Rattle.std.proofs.Common.{◌≡◌, ℕ, zero, suc, ◌-◌, ◌<◌, ◌≤◌, inl, inr, List, length, Option, Some, None, Result, Ok, Err, refl, arith}
use Rattle.csn_lexer.specs.declared.token.Token.{Token}
use Rattle.csn_lexer.specs.declared.token.LexFault.{LexFault}
use Rattle.csn_lexer.specs.Gap.{IsGap}
use Rattle.csn_lexer.specs.Gap.IsGap.{none as no_gap, separator as behind_separator, comment as behind_comment}
use Rattle.csn_lexer.specs.Tokens.{IsNext, SomethingIsNext}
use Rattle.csn_grammar.specs.declared.reader.state.Reader.{Reader}
use Rattle.csn_grammar.specs.RulesV.{RulesV}
use Rattle.csn_grammar.specs.TokenV.{token_in}
use Rattle.csn_grammar.specs.Place.{Decided}
use Rattle.csn_grammar.proofs.Run.{token_step, ends, start}
use Rattle.csn_grammar.proofs.Reading.{IsRead, read_none, read_more, token_refused, byte_refused, end_refused, has_rules}

-- a gap goes on
gap_rises : {text : List ℕ} {at to : ℕ} → IsGap text at to → at ≤ to
gap_rises (no_gap e) = omega arith
gap_rises (behind_separator inside is rest) = omega (arith, gap_rises rest)
gap_rises (behind_comment is rest) = omega (arith, is.forward, gap_rises rest)

decided_end : (text : List ℕ) (at : ℕ) (r : Reader) → IsRead text at r → IsNext text at (Ok None) → Decided text
decided_end text at r read next = go (ends r) refl
  where
    go : (o : Option RulesV) → ends r ≡ o → Decided text
    go None e = inr (length text, end_refused read next e)
    go (Some rules) e = inl (rules, has_rules rules read next e)

decided_token : (text : List ℕ) (at : ℕ) (r : Reader) (t : Token) → IsRead text at r → IsNext text at (Ok (Some t))
    → (o : Option Reader) → token_step r (token_in text t) ≡ o → ((q : Reader) → IsRead text t.end q → Decided text)
    → Decided text
decided_token text at r t read next None e further = inr (t.start, token_refused t read next e)
decided_token text at r t read next (Some q) e further = further q (read_more t q read next e)

-- by what is next, where the text is decided behind a token
decided_next : (text : List ℕ) (at : ℕ) (r : Reader) → IsRead text at r → (next : Result (Option Token) LexFault)
    → IsNext text at next → ((t : Token) → at < t.end → t.end ≤ length text → (q : Reader)
    → IsRead text t.end q → Decided text) → Decided text
decided_next text at r read (Ok None) next further = decided_end text at r read next
decided_next text at r read (Ok (Some t)) next further =
    decided_token text at r t read next (token_step r (token_in text t)) refl
    (further t (omega (arith, gap_rises next.0, next.1.begins)) next.1.within)
decided_next text at r read (Err fault) next further = inr (fault.place, byte_refused fault read next)

module _ (something_next : SomethingIsNext) where
  decided_from : (text : List ℕ) (fuel at : ℕ) (r : Reader) → at ≤ length text → length text - at < fuel → IsRead text at r → Decided text
  decided_from text zero at r within few read = absurd (omega arith)
  decided_from text (suc fuel) at r within few read =
      let next = something_next text at within in
      decided_next text at r read next.0 next.1 (λ t past end q more. decided_from text fuel t.end q end (omega (arith, past, few, end)) more)

  pub text_decided : (text : List ℕ) → Decided text
  text_decided text = decided_from text (suc (length text)) 0 start (omega arith) (omega arith) (read_none text)
