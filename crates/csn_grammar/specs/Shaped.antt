-- What every rule of a text has beside its forms: no literal word is empty, a sequence has two items or more,
-- a choice two alternatives, and a truncation one component. Nodes need as much. (The forms are those of 3GPP
-- TS 24.007 Annex B.)
use Rattle.std.specs.Prelude.{◌≤◌, ⊤, [], ◌∷◌, length}
use Rattle.csn_grammar.specs.ExprV.{ExprV, expr, FormV, lits, null, bit, octet, name, labelled, group, seq, choice}
use Rattle.csn_grammar.specs.ExprV.{power, cut, both, sends, ExprsV, no_item, item, BranchesV, no_branch, branch}
use Rattle.csn_grammar.specs.ExprV.{item_list, branch_list}
use Rattle.csn_grammar.specs.RulesV.{RulesV}

abbrev mutual
  pub IsShaped : ExprV → Type 0
  IsShaped (expr s e f) = FormShaped f

  pub FormShaped : FormV → Type 0
  FormShaped (lits run) = 1 ≤ length run
  FormShaped null = ⊤
  FormShaped bit = ⊤
  FormShaped octet = ⊤
  FormShaped (name n) = ⊤
  FormShaped (labelled label x) = IsShaped x
  FormShaped (group x) = IsShaped x
  FormShaped (seq xs) = (2 ≤ length (item_list xs)) × ItemsShaped xs
  FormShaped (choice bs) = (2 ≤ length (branch_list bs)) × BranchesShaped bs
  FormShaped (power x k) = IsShaped x
  FormShaped (cut xs) = (1 ≤ length (item_list xs)) × ItemsShaped xs
  FormShaped (both x y) = IsShaped x × IsShaped y
  FormShaped (sends x y) = IsShaped x × IsShaped y

  pub ItemsShaped : ExprsV → Type 0
  ItemsShaped no_item = ⊤
  ItemsShaped (item x xs) = IsShaped x × ItemsShaped xs

  pub BranchesShaped : BranchesV → Type 0
  BranchesShaped no_branch = ⊤
  BranchesShaped (branch error x bs) = IsShaped x × BranchesShaped bs

-- each rule is shaped so
abbrev pub AreShaped : RulesV → Type 0
AreShaped [] = ⊤
AreShaped (rule ∷ rules) = IsShaped rule.body × AreShaped rules
