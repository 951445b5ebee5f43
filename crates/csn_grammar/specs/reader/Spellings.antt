-- What the reader makes of single words. `Writing` says what words mean; this says what the parts of
-- the reader compute, and is read only with their proofs.
use Rattle.std.specs.Prelude.{ℕ, Bool, ◌&&◌, List, [], ◌∷◌, length, Option, Some, None, if◌then◌else◌, nat_eq, nat_le, ◌==◌, codes}
use Rattle.std.specs.Cmp.Lexicographic.{pointwise}
use Rattle.std.specs.Char.{is_ascii_digit}
use Rattle.std.specs.List.{list_all}
use Rattle.std.specs.Option.{option_map}
use Rattle.csn_desc.specs.declared.symbol.Symbol.{Symbol}
use Rattle.csn_desc.specs.declared.symbol.Symbol.TheVariants.{Zero, One, Low, High}
use Rattle.csn_grammar.specs.ExprV.{FormV, lits, null, bit, octet}
use Rattle.csn_grammar.specs.declared.exponent.TheConstants.{MOST_DIGITS}
use Rattle.csn_grammar.specs.Writing.{letter_of, decimal_after}

abbrev pub is_text : List ℕ → List ℕ → Bool
is_text word text = pointwise nat_eq word text

abbrev pub number_of : List ℕ → Option ℕ
number_of word =
    if (nat_le 1 (length word) && nat_le (length word) MOST_DIGITS) && list_all is_ascii_digit word
    then Some (decimal_after 0 word)
    else None

abbrev pub symbol_of : ℕ → Option Symbol
symbol_of c =
    if c == letter_of Zero then Some Zero
    else (if c == letter_of One then Some One
    else (if c == letter_of Low then Some Low
    else (if c == letter_of High then Some High
    else None)))

-- the symbols of a word that is a literal
abbrev pub with_symbol : Option Symbol → Option (List Symbol) → Option (List Symbol)
with_symbol (Some s) (Some run) = Some (s ∷ run)
with_symbol (Some s) None = None
with_symbol None rest = None

abbrev pub run_of : List ℕ → Option (List Symbol)
run_of [] = Some []
run_of (c ∷ rest) = with_symbol (symbol_of c) (run_of rest)

-- the side that a word is alone
abbrev pub word_form : List ℕ → Option FormV
word_form word =
    if is_text word (codes "null") then Some null
    else (if is_text word (codes "bit") then Some bit
    else (if is_text word (codes "octet") then Some octet
    else option_map lits (run_of word)))
