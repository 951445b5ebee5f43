-- Each expression is larger than those in it.
use Rattle.std.specs.Prelude.{◌≤◌}
use Rattle.std.proofs.Common.{arith}
use Rattle.csn_grammar.specs.declared.expr.Form.{Form}
use Rattle.csn_grammar.specs.declared.expr.Form.TheVariants.{Lits, Null, Bit, Octet, Name, Labelled, Group, Seq, Choice, Power, Cut, Both, Sends}
use Rattle.csn_grammar.specs.declared.expr.Branch.TheDeep.{deep-Form}
use Rattle.csn_grammar.specs.FormView.{form_view}
use Rattle.csn_grammar.specs.ExprCode.{form_size, most_le-list_size, most_le-branch_list_size}

-- no expression inside is as large as the whole
pub deep_le-form_size : (f : Form) → deep-Form f ≤ form_size (form_view f)
deep_le-form_size (Lits run) = omega arith
deep_le-form_size Null = omega arith
deep_le-form_size Bit = omega arith
deep_le-form_size Octet = omega arith
deep_le-form_size (Name label) = omega arith
deep_le-form_size (Labelled label x) = omega arith
deep_le-form_size (Group x) = omega arith
deep_le-form_size (Seq xs) = omega (arith, most_le-list_size xs)
deep_le-form_size (Choice bs) = omega (arith, most_le-branch_list_size bs)
deep_le-form_size (Power x e) = omega arith
deep_le-form_size (Cut xs) = omega (arith, most_le-list_size xs)
deep_le-form_size (Both x y) = omega arith
deep_le-form_size (Sends x y) = omega arith
