-- What the parts of the lexer promise of single signs.
use Rattle.std.specs.Prelude.{◌≢◌, ℕ, List, [], ◌∷◌, IsFalse}
use Rattle.csn_lexer.specs.declared.symbol.TheConstants.{COLON, STAR, SLASH}
use Rattle.csn_lexer.specs.declared.token.TokenKind.{TokenKind}
use Rattle.csn_lexer.specs.Spelling.{IsSpelled}
use Rattle.csn_lexer.specs.Word.{begins_word}

-- the byte is a token of this kind, and no longer token begins with it
pub record StandsAlone (kind : TokenKind) (c : ℕ) : Type 0 where
  pub spelled : IsSpelled kind (c ∷ [])
  pub alone : (k : TokenKind) (d : ℕ) (rest : List ℕ) → ¬ IsSpelled k (c ∷ d ∷ rest)

-- no token begins with the byte, unless it begins a word or is `:`, `*` or `/`
abbrev pub BeginsNoSign : ℕ → Type 0
BeginsNoSign c =
    c ≢ COLON → c ≢ STAR → c ≢ SLASH → IsFalse (begins_word c)
    → (k : TokenKind) (rest : List ℕ) → ¬ IsSpelled k (c ∷ rest)
