-- An option that is told twice.
use Rattle.std.proofs.Common.{◌≡◌, Option, Some, None}

pub no_none : {A : Type 0} {o : Option A} {x : A} → o ≡ Some x → o ≡ None → ⊥
no_none p q = cc

pub same_some : {A : Type 0} {o : Option A} {x y : A} → o ≡ Some x → o ≡ Some y → x ≡ y
same_some p q = cc
