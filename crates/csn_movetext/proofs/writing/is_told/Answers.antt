use Rattle.std.proofs.Common.{◌≡◌, ℕ, ◌*◌, nat_le, ◌&&◌, Bool, true, false, Some, None, is_some, refl, ap, ◌∙◌}
use Rattle.std.specs.Prelude.{if◌then◌else◌}
use Rattle.std.proofs.lemmas.Bool.{leb-true}
use Rattle.csn_desc.specs.declared.node.Count.TheVariants.{Fixed}
use Rattle.csn_desc.specs.declared.node.Node.{Node}
use Rattle.csn_desc.specs.declared.node.Node.TheVariants.{Spare, Field}
use Rattle.csn_treetext.specs.declared.bounds.TheConstants.{MOST_SHORT}
use Rattle.csn_movetext.specs.Openings.{leaf_width}
use Rattle.csn_movetext.specs.Told.{IsTold}
use Rattle.csn_movetext.proofs.writing.is_told.Goals as goal

by_tests : (width : ℕ) (a b : Bool) (told : Bool) → nat_le 1 width ≡ a → nat_le width MOST_SHORT ≡ b
    → told ≡ is_some (if a && b then Some width else None) → IsTold (if a && b then Some width else None) told
by_tests width true true told least most is = (is, leb-true 1 width least, leb-true width MOST_SHORT most)
by_tests width true false told least most is = is
by_tests width false true told least most is = is
by_tests width false false told least most is = is

told_is : (node : Node) (told : Bool) → told ≡ is_some (leaf_width node) → IsTold (leaf_width node) told
told_is (Spare symbol) told is = by_tests 1 true true told refl refl is
told_is (Field unit (Fixed n)) told is = by_tests (unit * n) _ _ told refl refl is
told_is _ told is = is

pub returns : goal.returns
returns c = told_is c.args.node.now c.is_some.result (c.is_some.ensures ∙ ap is_some c.leaf_width.ensures)
