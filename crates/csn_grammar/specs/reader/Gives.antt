-- How the parts of the reader answer.
use Rattle.std.specs.Prelude.{◌≡◌, ℕ, List, Option, Some, None, Result, Ok, Err}
use Rattle.csn_lexer.specs.declared.token.TokenKind.{TokenKind}
use Rattle.csn_lexer.specs.declared.token.TokenKind.TheVariants.{Word}
use Rattle.csn_lexer.specs.Word.{IsWord}
use Rattle.csn_grammar.specs.declared.fault.GrammarFault.{GrammarFault}
use Rattle.csn_grammar.specs.declared.fault.GrammarFault.TheVariants as fault
use Rattle.csn_grammar.specs.declared.reader.stop.Stop.{Stop}
use Rattle.csn_grammar.specs.declared.reader.stop.Stop.TheVariants.{Refused, NoMemory}

-- a part of the reader answers what is wanted, a refusal where that is nothing, or want of memory
abbrev pub Gives : {X : Type 0} → Result X Stop → Option X → Type 0
Gives (Ok x) wanted = wanted ≡ Some x
Gives (Err Refused) wanted = wanted ≡ None
Gives (Err NoMemory) wanted = Unit {0}

-- where the token is a word, so are its bytes
abbrev pub IsWordToken : TokenKind → List ℕ → Type 0
IsWordToken kind bytes = kind ≡ Word → IsWord bytes

-- a part of the reader gives what is wanted, or a syntax fault at this place where that is nothing, or
-- want of memory
abbrev pub GivesAt : {X : Type 0} → ℕ → Result X GrammarFault → Option X → Type 0
GivesAt place (Ok x) wanted = wanted ≡ Some x
GivesAt place (Err (fault.Syntax at)) wanted = (at ≡ place) × (wanted ≡ None)
GivesAt place (Err fault.NoMemory) wanted = Unit {0}
