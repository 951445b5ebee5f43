-- The labels that stand in the rules of a text: words with one space between.
use Rattle.std.specs.Prelude.{⊤, [], ◌∷◌}
use Rattle.csn_desc.specs.Label.{IsLabel}
use Rattle.csn_grammar.specs.ExprV.{ExprV, expr, FormV, lits, null, bit, octet, name, labelled, group, seq, choice}
use Rattle.csn_grammar.specs.ExprV.{power, cut, both, sends, ExprsV, no_item, item, BranchesV, no_branch, branch}
use Rattle.csn_grammar.specs.RulesV.{RulesV}

-- each labelled part in the expression has such a label
abbrev mutual
  pub IsLabelled : ExprV → Type 0
  IsLabelled (expr s e f) = FormLabelled f

  pub FormLabelled : FormV → Type 0
  FormLabelled (lits run) = ⊤
  FormLabelled null = ⊤
  FormLabelled bit = ⊤
  FormLabelled octet = ⊤
  FormLabelled (name n) = ⊤
  FormLabelled (labelled label x) = IsLabel label × IsLabelled x
  FormLabelled (group x) = IsLabelled x
  FormLabelled (seq xs) = ItemsLabelled xs
  FormLabelled (choice bs) = BranchesLabelled bs
  FormLabelled (power x k) = IsLabelled x
  FormLabelled (cut xs) = ItemsLabelled xs
  FormLabelled (both x y) = IsLabelled x × IsLabelled y
  FormLabelled (sends x y) = IsLabelled x × IsLabelled y

  pub ItemsLabelled : ExprsV → Type 0
  ItemsLabelled no_item = ⊤
  ItemsLabelled (item x xs) = IsLabelled x × ItemsLabelled xs

  pub BranchesLabelled : BranchesV → Type 0
  BranchesLabelled no_branch = ⊤
  BranchesLabelled (branch error x bs) = IsLabelled x × BranchesLabelled bs

-- each rule has such labels
abbrev pub AreLabelled : RulesV → Type 0
AreLabelled [] = ⊤
AreLabelled (rule ∷ rules) = IsLabelled rule.body × AreLabelled rules
