-- What a contract sees of a lexer.
use Rattle.std.specs.Prelude.{ℕ, List}

-- a text, and the place behind its last token that was taken
pub record Cursor : Type 0 where
  pub text : List ℕ
  pub place : ℕ
