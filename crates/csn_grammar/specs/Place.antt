-- The rules of a text, and the place of the fault where it has none. What the place is, is this
-- project's own choice.
use Rattle.std.specs.Prelude.{◌≡◌, ℕ, ◌⊎◌, List, [], ◌∷◌, ◌++◌, length, Some, None, Ok, Err}
use Rattle.csn_lexer.specs.declared.token.Token.{Token}
use Rattle.csn_lexer.specs.declared.token.LexFault.{LexFault}
use Rattle.csn_lexer.specs.Tokens.{IsNext, AreTokens, AreAllTokens}
use Rattle.csn_grammar.specs.RulesV.{RulesV}
use Rattle.csn_grammar.specs.TokenV.{TokenV, tokens_in}
use Rattle.csn_grammar.specs.Grammar.{AreRules}

-- the text is tokens up to its end, and they are these rules
pub record HasRules (text : List ℕ) (rules : RulesV) : Type 0 where
  pub tokens : List Token
  pub read : AreAllTokens text tokens None
  pub are : AreRules (tokens_in text tokens) rules

-- some tokens behind these make rules of them
abbrev pub BeginRules : List TokenV → Type 0
BeginRules front = (more : List TokenV) × (rules : RulesV) × AreRules (front ++ more) rules

-- where a text that has no rules is wrong: up to there it begins some rules
pub data IsSyntaxPlace (text : List ℕ) : ℕ → Type 0 where
  -- the first token that cannot follow those before it
  refused_token : {to : ℕ} {front : List Token} (t : Token) → AreTokens text 0 front to
      → BeginRules (tokens_in text front) → IsNext text to (Ok (Some t))
      → ¬ BeginRules (tokens_in text (front ++ t ∷ [])) → IsSyntaxPlace text t.start
  -- a byte that begins no token
  refused_byte : {to : ℕ} {front : List Token} (fault : LexFault) → AreTokens text 0 front to
      → BeginRules (tokens_in text front) → IsNext text to (Err fault)
      → IsSyntaxPlace text fault.place
  -- the end of the text, where it ends too early
  refused_end : {to place : ℕ} {front : List Token} → AreTokens text 0 front to
      → BeginRules (tokens_in text front) → IsNext text to (Ok None)
      → ((rules : RulesV) → ¬ AreRules (tokens_in text front) rules) → place ≡ length text
      → IsSyntaxPlace text place

-- the text has rules, or a place where it is wrong
abbrev pub Decided : List ℕ → Type 0
Decided text = ((rules : RulesV) × HasRules text rules) ⊎ ((place : ℕ) × IsSyntaxPlace text place)
