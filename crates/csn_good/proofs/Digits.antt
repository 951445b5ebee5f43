-- A digit of a number, by division.
use Rattle.std.proofs.Common.{◌≡◌, ℕ, zero, suc, ◌-◌, ◌/◌, ◌%◌, ◌<◌, sym, ◌∙◌, ap, arith}
use Rattle.std.specs.Prelude.{◌^◌, ◌==◌, IsTrue}
use Rattle.csn_good.specs.ClaimedSets.{has_digit}

pub digit_is : (count number place : ℕ) → place < count → has_digit count number place ≡ (number / 2 ^ (count - 1 - place) % 2 == 1)
digit_is zero number place less = absurd (omega arith)
digit_is (suc count) number zero less =
    let same : suc count - 1 - 0 ≡ count = omega arith in ap (λ k. number / 2 ^ k % 2 == 1) (sym same)
digit_is (suc count) number (suc place) less =
    let same : count - 1 - place ≡ suc count - 1 - suc place = omega arith in
    digit_is count number place (omega arith) ∙ ap (λ k. number / 2 ^ k % 2 == 1) same

-- a digit that is there has its place among them
pub digit_within : (count number place : ℕ) → IsTrue (has_digit count number place) → place < count
digit_within zero number place holds = absurd (cc)
digit_within (suc count) number zero holds = omega arith
digit_within (suc count) number (suc place) holds = let less = digit_within count number place holds in omega arith
