-- What is written in single words: literals, as 3GPP TS 24.007 Annex B and TS 44.060 write them, and
-- numbers, whose size is this project's own choice.
use Rattle.std.specs.Prelude.{◌≡◌, ℕ, ◌+◌, ◌-◌, ◌*◌, ◌≤◌, List, [], ◌∷◌, length, map, IsTrue}
use Rattle.std.specs.Char.{is_ascii_digit}
use Rattle.std.specs.List.{list_all}
use Rattle.csn_desc.specs.declared.symbol.Symbol.{Symbol}
use Rattle.csn_desc.specs.declared.symbol.Symbol.TheVariants.{Zero, One, Low, High}
use Rattle.csn_grammar.specs.declared.exponent.TheConstants.{MOST_DIGITS}

-- how a symbol is written: `0`, `1`, `L` or `H`
abbrev pub letter_of : Symbol → ℕ
letter_of Zero = 48
letter_of One = 49
letter_of Low = 76
letter_of High = 72

-- the word is this run of symbols
abbrev pub IsLits : List ℕ → List Symbol → Type 0
IsLits word run = word ≡ map letter_of run

-- the number that digits write behind the number `before`
abbrev pub decimal_after : ℕ → List ℕ → ℕ
decimal_after before [] = before
decimal_after before (c ∷ rest) = decimal_after (before * 10 + (c - 48)) rest

-- the word is this number, written in one digit at least and at most nine
pub record IsNumber (word : List ℕ) (n : ℕ) : Type 0 where
  pub some : 1 ≤ length word
  pub few : length word ≤ MOST_DIGITS
  pub digits : IsTrue (list_all is_ascii_digit word)
  pub value : n ≡ decimal_after 0 word
