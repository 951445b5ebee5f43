-- Which of some parts a node is.
use Rattle.std.proofs.Common.{◌≡◌, ℕ, ◌<◌, List, length, get_or, false, arith, eq-eqb}
use Rattle.std.specs.Prelude.{◌==◌}
use Rattle.std.specs.List.{position_or_len}
use Rattle.std.proofs.lemmas.Bool.Decides.{nat_tests}
use Rattle.std.proofs.lemmas.List.Sums.{position_or_len_is}
use Rattle.csn_reasons.specs.Paths.{place_among}

-- the first of them that it is
pub place_here : (part : ℕ) (parts : List ℕ) (at d : ℕ) → at < length parts → get_or parts at d ≡ part
    → ((k : ℕ) → k < at → (get_or parts k d == part) ≡ false) → at ≡ place_among part parts
place_here part parts at d inside here others =
    let is : position_or_len (λ x. x == part) parts ≡ at =
    position_or_len_is (λ x. x == part) parts at d (omega (arith, inside)) others (λ within. eq-eqb (get_or parts at d) part here) in
    grind (arith, nat_tests)

-- none of them
pub place_none : (part : ℕ) (parts : List ℕ) (d : ℕ) → ((k : ℕ) → k < length parts → (get_or parts k d == part) ≡ false)
    → 0 ≡ place_among part parts
place_none part parts d others =
    let is : position_or_len (λ x. x == part) parts ≡ length parts =
    position_or_len_is (λ x. x == part) parts (length parts) d (omega arith) others (λ within. absurd (omega (arith, within))) in
    grind (arith, nat_tests)
