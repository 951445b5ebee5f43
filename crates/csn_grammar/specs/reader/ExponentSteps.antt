-- What the reader makes of the tokens of an exponent, one after another. `Counts` says what exponents
-- are; this says what the parts of the reader compute, and is read only with their proofs.
use Rattle.std.specs.Prelude.{ℕ, true, false, List, ◌∷◌, ◌++◌, Option, Some, None, unwrap_or, if◌then◌else◌, codes}
use Rattle.std.specs.Option.{option_map}
use Rattle.csn_lexer.specs.declared.token.TokenKind.{TokenKind}
use Rattle.csn_lexer.specs.declared.token.TokenKind.TheVariants as kind
use Rattle.csn_grammar.specs.declared.exponent.Exponent.{Exponent}
use Rattle.csn_grammar.specs.declared.exponent.Exponent.TheVariants as exponent
use Rattle.csn_grammar.specs.declared.reader.progress.Terms.{Terms}
use Rattle.csn_grammar.specs.declared.reader.progress.Progress.{Progress}
use Rattle.csn_grammar.specs.declared.reader.progress.Progress.TheVariants.{Bracket, Star, StarBracket, Number}
use Rattle.csn_grammar.specs.declared.reader.progress.Progress.TheVariants.{Summand, Factor, Before, Val, ValBracket}
use Rattle.csn_grammar.specs.declared.reader.progress.Progress.TheVariants.{ValWords, Product, FactorBehind}
use Rattle.csn_grammar.specs.declared.reader.progress.Progress.TheVariants.{SummandBehind, Whole}
use Rattle.csn_grammar.specs.declared.reader.progress.ExponentNext.{ExponentNext}
use Rattle.csn_grammar.specs.declared.reader.progress.ExponentNext.TheVariants.{Goes, Ends}
use Rattle.csn_grammar.specs.reader.Spellings.{is_text, number_of}

abbrev pub linear : Terms → List ℕ → Exponent
linear t label = exponent.Linear (unwrap_or t.factor 1) label (unwrap_or t.summand 0)

abbrev pub first_some : {X : Type 0} → Option X → Option X → Option X
first_some (Some x) other = Some x
first_some None other = other

-- the token is a number
abbrev pub number_at : TokenKind → List ℕ → Option ℕ
number_at kind.Word w = number_of w
number_at _ w = None

-- the word `val`, with this before it
abbrev pub val_step : Terms → List ℕ → Option ExponentNext
val_step t w = if is_text w (codes "val") then Some (Goes (Val t)) else None

abbrev pub before_step : Terms → TokenKind → List ℕ → Option ExponentNext
before_step t kind.Word w = val_step t w
before_step t _ w = None

abbrev pub count_step : TokenKind → List ℕ → Option ExponentNext
count_step k w =
    first_some (option_map (λ n. Goes (Number n)) (number_at k w))
    (before_step (record { factor = None; summand = None; bracket = true }) k w)

abbrev pub bracket_step : TokenKind → List ℕ → Option ExponentNext
bracket_step kind.Star w = Some (Goes (Whole exponent.Any))
bracket_step kind.StarStar w = Some (Goes (Whole exponent.Any))
bracket_step k w = count_step k w

abbrev pub star_step : TokenKind → List ℕ → Option ExponentNext
star_step kind.ParenLeft w = Some (Goes StarBracket)
star_step k w =
    first_some (option_map (λ n. Ends (exponent.Number n)) (number_at k w))
    (before_step (record { factor = None; summand = None; bracket = false }) k w)

abbrev pub number_step : ℕ → TokenKind → Option ExponentNext
number_step n kind.ParenRight = Some (Ends (exponent.Number n))
number_step n kind.Star = Some (Goes (Before (record { factor = Some n; summand = None; bracket = true })))
number_step n kind.Plus = Some (Goes (Summand n))
number_step n _ = None

abbrev pub summand_step : ℕ → TokenKind → List ℕ → Option ExponentNext
summand_step c k w =
    first_some (option_map (λ m. Goes (Factor c m)) (number_at k w))
    (before_step (record { factor = None; summand = Some c; bracket = true }) k w)

abbrev pub factor_step : ℕ → ℕ → TokenKind → Option ExponentNext
factor_step c m kind.Star = Some (Goes (Before (record { factor = Some m; summand = Some c; bracket = true })))
factor_step c m _ = None

abbrev pub val_bracket_step : Terms → TokenKind → Option ExponentNext
val_bracket_step t kind.ParenLeft = Some (Goes (ValBracket t))
val_bracket_step t _ = None

abbrev pub first_word_step : Terms → TokenKind → List ℕ → Option ExponentNext
first_word_step t kind.Word w = Some (Goes (ValWords t w))
first_word_step t _ w = None

abbrev pub words_step : Terms → List ℕ → TokenKind → List ℕ → Option ExponentNext
words_step t words kind.Word w = Some (Goes (ValWords t (words ++ 32 ∷ w)))
words_step t words kind.ParenRight w =
    if t.bracket then Some (Goes (Product t words)) else Some (Ends (linear t words))
words_step t words _ w = None

abbrev pub factor_behind : Terms → Option ℕ → List ℕ → Option ExponentNext
factor_behind t None label = Some (Goes (FactorBehind t.summand label))
factor_behind t (Some m) label = None

abbrev pub summand_behind : Terms → Option ℕ → List ℕ → Option ExponentNext
summand_behind t None label = Some (Goes (SummandBehind (unwrap_or t.factor 1) label))
summand_behind t (Some c) label = None

abbrev pub product_step : Terms → List ℕ → TokenKind → Option ExponentNext
product_step t label kind.ParenRight = Some (Ends (linear t label))
product_step t label kind.Star = factor_behind t t.factor label
product_step t label kind.Plus = summand_behind t t.summand label
product_step t label _ = None

abbrev pub factor_behind_step : Option ℕ → List ℕ → TokenKind → List ℕ → Option ExponentNext
factor_behind_step c label k w =
    option_map (λ m. Goes (Product (record { factor = Some m; summand = c; bracket = true }) label)) (number_at k w)

abbrev pub summand_behind_step : ℕ → List ℕ → TokenKind → List ℕ → Option ExponentNext
summand_behind_step m label k w = option_map (λ c. Goes (Whole (exponent.Linear m label c))) (number_at k w)

abbrev pub whole_step : Exponent → TokenKind → Option ExponentNext
whole_step e kind.ParenRight = Some (Ends e)
whole_step e _ = None

abbrev pub exponent_step : Progress → TokenKind → List ℕ → Option ExponentNext
exponent_step Bracket k w = bracket_step k w
exponent_step Star k w = star_step k w
exponent_step StarBracket k w = count_step k w
exponent_step (Number n) k w = number_step n k
exponent_step (Summand c) k w = summand_step c k w
exponent_step (Factor c m) k w = factor_step c m k
exponent_step (Before t) k w = before_step t k w
exponent_step (Val t) k w = val_bracket_step t k
exponent_step (ValBracket t) k w = first_word_step t k w
exponent_step (ValWords t words) k w = words_step t words k w
exponent_step (Product t label) k w = product_step t label k
exponent_step (FactorBehind c label) k w = factor_behind_step c label k w
exponent_step (SummandBehind m label) k w = summand_behind_step m label k w
exponent_step (Whole e) k w = whole_step e k
