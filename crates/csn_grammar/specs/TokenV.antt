-- The tokens of a text together with what is written in them, so that the grammar can speak of tokens
-- alone.
use Rattle.std.specs.Prelude.{ℕ, List, map, slice_range}
use Rattle.csn_lexer.specs.declared.token.TokenKind.{TokenKind}
use Rattle.csn_lexer.specs.declared.token.Token.{Token}

-- a token: its kind, the place of its first byte and that behind its last one, and its bytes
pub data TokenV : Type 0 where
  token : TokenKind → ℕ → ℕ → List ℕ → TokenV

abbrev pub token_in : List ℕ → Token → TokenV
token_in text t = token t.kind t.start t.end (slice_range text t.start t.end)

abbrev pub tokens_in : List ℕ → List Token → List TokenV
tokens_in text ts = map (token_in text) ts
