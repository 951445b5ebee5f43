-- Facts of what a lexer answers.
use Rattle.std.specs.Prelude.{Option, Some, None, Result, Ok, Err}
use Rattle.csn_lexer.specs.declared.token.Token.{Token}
use Rattle.csn_lexer.specs.declared.token.LexFault.{LexFault}

-- a fact of the token, where a lexer gave one
abbrev pub OnToken : Result (Option Token) LexFault → (Token → Type 0) → Type 0
OnToken (Ok (Some t)) P = P t
OnToken (Ok None) P = Unit {0}
OnToken (Err fault) P = Unit {0}

-- a fact for the end of the text and for a fault
abbrev pub OnNoToken : Result (Option Token) LexFault → Type 0 → Type 0
OnNoToken (Ok (Some t)) P = Unit {0}
OnNoToken (Ok None) P = P
OnNoToken (Err fault) P = P
