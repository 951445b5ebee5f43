-- Facts about tests.
use Rattle.std.proofs.Common.{◌≡◌, Bool, true, false, ◌||◌, refl}

pub or_wider :
    (a b c d : Bool)
    → (a ≡ true → c ≡ true) → (b ≡ true → d ≡ true) → (a || b) ≡ true → (c || d) ≡ true
or_wider true b c d left right p = let first : c ≡ true = left refl in cc
or_wider false b true d left right p = refl
or_wider false b false d left right p = right p

pub no_both : {b : Bool} → b ≡ true → b ≡ false → ⊥
no_both p q = cc
