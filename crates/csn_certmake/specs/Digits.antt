-- Sets as digits, as the private functions write them. No public contract cites these words.
use Rattle.std.specs.Prelude.{ℕ, ◌+◌, ◌*◌, ◌<◌, ◌≤◌, ◌↔◌, Bool, true, false, Option, IsTrue}
use Rattle.csn_look.specs.declared.symbol_set.Sign.{Sign}
use Rattle.csn_look.specs.Signs.{bit_of_sign}
use Rattle.csn_good.specs.ClaimedSets.{has_digit, follow_digit}

-- the digits of a number, and behind them one more
abbrev pub with_digit : ℕ → Bool → ℕ
with_digit digits true = 2 * digits + 1
with_digit digits false = 2 * digits

-- the last so many digits of the number are 1 at the places with the fact
abbrev pub DigitsAre : ℕ → ℕ → (ℕ → Type 0) → Type 0
DigitsAre count digits P = (place : ℕ) → place < count → IsTrue (has_digit count digits place) ↔ P place

-- the 24 digits say which sign may follow at which octet position
abbrev pub SaysFollow : ℕ → (ℕ → Option ℕ → Type 0) → Type 0
SaysFollow follow P = (o : ℕ) (sign : Sign) → o ≤ 7 → IsTrue (follow_digit follow o (bit_of_sign sign)) ↔ P o (bit_of_sign sign)
