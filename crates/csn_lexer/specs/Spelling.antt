-- What each kind of token is spelled like. The signs are those of 3GPP TS 24.007 Annex B, and of its
-- use in TS 44.060 clause 11 (`!`, `//`); words are this project's choice.
use Rattle.std.specs.Prelude.{◌≡◌, ℕ, List, codes}
use Rattle.csn_lexer.specs.declared.token.TokenKind.{TokenKind}
use Rattle.csn_lexer.specs.declared.token.TokenKind.TheVariants.{Less, Greater, Colon, Define, Semicolon, BraceLeft}
use Rattle.csn_lexer.specs.declared.token.TokenKind.TheVariants.{BraceRight, Bar, Bang, Ampersand, Equal, ParenLeft}
use Rattle.csn_lexer.specs.declared.token.TokenKind.TheVariants.{ParenRight, Star, StarStar, SlashSlash, Plus, Word}
use Rattle.csn_lexer.specs.Word.{IsWord}

-- the bytes are a token of this kind
abbrev pub IsSpelled : TokenKind → List ℕ → Type 0
IsSpelled Less bytes = bytes ≡ codes "<"
IsSpelled Greater bytes = bytes ≡ codes ">"
IsSpelled Colon bytes = bytes ≡ codes ":"
IsSpelled Define bytes = bytes ≡ codes "::="
IsSpelled Semicolon bytes = bytes ≡ codes ";"
IsSpelled BraceLeft bytes = bytes ≡ codes "{"
IsSpelled BraceRight bytes = bytes ≡ codes "}"
IsSpelled Bar bytes = bytes ≡ codes "|"
IsSpelled Bang bytes = bytes ≡ codes "!"
IsSpelled Ampersand bytes = bytes ≡ codes "&"
IsSpelled Equal bytes = bytes ≡ codes "="
IsSpelled ParenLeft bytes = bytes ≡ codes "("
IsSpelled ParenRight bytes = bytes ≡ codes ")"
IsSpelled Star bytes = bytes ≡ codes "*"
IsSpelled StarStar bytes = bytes ≡ codes "**"
IsSpelled SlashSlash bytes = bytes ≡ codes "//"
IsSpelled Plus bytes = bytes ≡ codes "+"
IsSpelled Word bytes = IsWord bytes
