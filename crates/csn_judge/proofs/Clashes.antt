-- What cannot be together.
use Rattle.std.proofs.Common.{◌≡◌, ℕ, Bool, true, false, Option, Some}
use Rattle.csn_desc.specs.declared.node.Count.{Count}
use Rattle.csn_desc.specs.declared.node.Node.TheVariants.{Field}
use Rattle.csn_judge.specs.declared.turn.Turn.TheVariants.{Moved, Waits}

pub true_and_false : {b : Bool} → b ≡ true → b ≡ false → ⊥
true_and_false is is_not = absurd (cc)

pub moved_and_waits : Moved ≡ Waits → ⊥
moved_and_waits same = absurd (cc)

-- and what is one
pub one_value : {A : Type 0} {o : Option A} {x y : A} → o ≡ Some x → o ≡ Some y → x ≡ y
one_value first second = cc

pub one_count : {unit other_unit : ℕ} {count other : Count} → Field unit count ≡ Field other_unit other → count ≡ other
one_count same = cc
