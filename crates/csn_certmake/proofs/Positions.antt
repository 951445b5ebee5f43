-- Two octet positions are one or not.
use Rattle.std.proofs.Common.{◌≡◌, ◌≢◌, ℕ, true, false, arith}
use Rattle.std.specs.Prelude.{◌==◌}
use Rattle.std.proofs.lemmas.Bool.Decides.{nat_tests}

pub octet_is : (a b : ℕ) → a ≡ b → (a == b) ≡ true
octet_is a b is = grind (arith, nat_tests, is)

pub octet_differs : (a b : ℕ) → a ≢ b → (a == b) ≡ false
octet_differs a b differ = grind (arith, nat_tests, differ)
