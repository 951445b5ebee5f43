-- How the logic stores an expression, and how large one is, so that code that goes down one ends.
use Rattle.std.specs.Prelude.{◌≡◌, ℕ, ◌+◌, ◌≤◌, Bool, true, false, nat_eq, List, [], ◌∷◌, max, refl}
use Rattle.std.specs.Coded.{Coded, code_by, coded×, coded_ℕ, coded_bool, coded_list}
use Rattle.std.proofs.Common.{ap, arith}
use base.Stored.{Gv, gnil, gnum, gcons}
use denote.Param.Weighed.{most}
use Rattle.csn_desc.specs.declared.symbol.Symbol.{Symbol}
use Rattle.csn_desc.specs.declared.symbol.Symbol.TheVariants.{Zero, One, Low, High}
use Rattle.csn_grammar.specs.declared.exponent.Exponent.{Exponent}
use Rattle.csn_grammar.specs.declared.exponent.Exponent.TheVariants.{Any, Number, Linear}
use Rattle.csn_grammar.specs.ExprV.{ExprV, expr, FormV, lits, null, bit, octet, name, labelled, group, seq, choice}
use Rattle.csn_grammar.specs.ExprV.{power, cut, both, sends, ExprsV, no_item, item, BranchesV, no_branch, branch}
use Rattle.csn_grammar.specs.ExprV.{BranchV, exprs_of, branches_of}

abbrev pub numbers : Coded (List ℕ)
numbers = coded_list coded_ℕ

abbrev pub symbol_code : Symbol → Gv
symbol_code Zero = gnum 0
symbol_code One = gnum 1
symbol_code Low = gnum 2
symbol_code High = gnum 3

pub symbol_code-one : (x y : Symbol) → symbol_code x ≡ symbol_code y → x ≡ y
symbol_code-one Zero Zero p = cc
symbol_code-one One One p = cc
symbol_code-one Low Low p = cc
symbol_code-one High High p = cc
symbol_code-one _ _ p = cc

abbrev pub symbols : Coded (List Symbol)
symbols = coded_list (record { code = symbol_code; inj = symbol_code-one })

abbrev pub exponent_code : Exponent → Gv
exponent_code Any = gcons (gnum 0) gnil
exponent_code (Number n) = gcons (gnum 1) (gnum n)
exponent_code (Linear m label c) = gcons (gnum 2) (gcons (gnum m) (gcons (numbers.code label) (gnum c)))

pub exponent_code-one : (x y : Exponent) → exponent_code x ≡ exponent_code y → x ≡ y
exponent_code-one Any Any p = cc
exponent_code-one (Number m) (Number n) p = cc
exponent_code-one (Linear m l c) (Linear n k d) p = let labels : l ≡ k = numbers.inj l k (cc) in cc
exponent_code-one _ _ p = cc

abbrev mutual
  pub code_expr : ExprV → Gv
  code_expr (expr s e f) = gcons (gnum s) (gcons (gnum e) (code_form f))

  pub code_form : FormV → Gv
  code_form (lits run) = gcons (gnum 0) (symbols.code run)
  code_form null = gcons (gnum 1) gnil
  code_form bit = gcons (gnum 2) gnil
  code_form octet = gcons (gnum 3) gnil
  code_form (name label) = gcons (gnum 4) (numbers.code label)
  code_form (labelled label x) = gcons (gnum 5) (gcons (numbers.code label) (code_expr x))
  code_form (group x) = gcons (gnum 6) (code_expr x)
  code_form (seq xs) = gcons (gnum 7) (code_exprs xs)
  code_form (choice bs) = gcons (gnum 8) (code_branches bs)
  code_form (power x e) = gcons (gnum 9) (gcons (code_expr x) (exponent_code e))
  code_form (cut xs) = gcons (gnum 10) (code_exprs xs)
  code_form (both x y) = gcons (gnum 11) (gcons (code_expr x) (code_expr y))
  code_form (sends x y) = gcons (gnum 12) (gcons (code_expr x) (code_expr y))

  pub code_exprs : ExprsV → Gv
  code_exprs no_item = gnil
  code_exprs (item x xs) = gcons (code_expr x) (code_exprs xs)

  pub code_branches : BranchesV → Gv
  code_branches no_branch = gnil
  code_branches (branch error x bs) = gcons (coded_bool.code error) (gcons (code_expr x) (code_branches bs))

-- the number that tells the form
abbrev tag : Gv → ℕ
tag (gcons (gnum k) g) = k
tag g = 0

no_number : true ≡ false → ⊥
no_number p = cc

mutual
  pub code_expr-one : (x y : ExprV) → code_expr x ≡ code_expr y → x ≡ y
  code_expr-one (expr s e f) (expr s' e' f') p =
      let starts : s ≡ s' = cc in
      let ends : e ≡ e' = cc in
      let forms : f ≡ f' = code_form-one f f' (cc) in cc

  pub code_form-one : (x y : FormV) → code_form x ≡ code_form y → x ≡ y
  code_form-one (lits r) (lits q) p = ap lits (symbols.inj r q (cc))
  code_form-one null null p = cc
  code_form-one bit bit p = cc
  code_form-one octet octet p = cc
  code_form-one (name l) (name m) p = ap name (numbers.inj l m (cc))
  code_form-one (labelled l x) (labelled m y) p =
      let labels : l ≡ m = numbers.inj l m (cc) in let bodies : x ≡ y = code_expr-one x y (cc) in cc
  code_form-one (group x) (group y) p = ap group (code_expr-one x y (cc))
  code_form-one (seq xs) (seq ys) p = ap seq (code_exprs-one xs ys (cc))
  code_form-one (choice xs) (choice ys) p = ap choice (code_branches-one xs ys (cc))
  code_form-one (power x e) (power y d) p =
      let bodies : x ≡ y = code_expr-one x y (cc) in let exponents : e ≡ d = exponent_code-one e d (cc) in cc
  code_form-one (cut xs) (cut ys) p = ap cut (code_exprs-one xs ys (cc))
  code_form-one (both x y) (both u v) p =
      let lefts : x ≡ u = code_expr-one x u (cc) in let rights : y ≡ v = code_expr-one y v (cc) in cc
  code_form-one (sends x y) (sends u v) p =
      let lefts : x ≡ u = code_expr-one x u (cc) in let rights : y ≡ v = code_expr-one y v (cc) in cc
  code_form-one f g p = absurd (no_number (ap (λ h. nat_eq (tag (code_form f)) (tag h)) p))

  pub code_exprs-one : (x y : ExprsV) → code_exprs x ≡ code_exprs y → x ≡ y
  code_exprs-one (item x xs) (item y ys) p =
      let heads : x ≡ y = code_expr-one x y (cc) in let tails : xs ≡ ys = code_exprs-one xs ys (cc) in cc
  code_exprs-one no_item no_item p = cc
  code_exprs-one _ _ p = cc

  pub code_branches-one : (x y : BranchesV) → code_branches x ≡ code_branches y → x ≡ y
  code_branches-one no_branch no_branch p = cc
  code_branches-one (branch e x bs) (branch d y cs) p =
      let errors : e ≡ d = coded_bool.inj e d (cc) in
      let heads : x ≡ y = code_expr-one x y (cc) in
      let tails : bs ≡ cs = code_branches-one bs cs (cc) in cc
  code_branches-one _ _ p = cc

abbrev pub expr_code : Coded ExprV
expr_code = record { code = code_expr; inj = code_expr-one }

abbrev pub branch_code : Coded BranchV
branch_code =
    code_by (Bool × ExprV) (coded× coded_bool expr_code) (λ b. (b.error, b.body)) (λ p. record { error = p.0; body = p.1 }) (λ _. refl)

abbrev mutual
  pub expr_size : ExprV → ℕ
  expr_size (expr s e f) = form_size f

  pub form_size : FormV → ℕ
  form_size (lits run) = 0
  form_size null = 0
  form_size bit = 0
  form_size octet = 0
  form_size (name label) = 0
  form_size (labelled label x) = expr_size x + 1
  form_size (group x) = expr_size x + 1
  form_size (seq xs) = exprs_size xs + 1
  form_size (choice bs) = branches_size bs + 1
  form_size (power x e) = expr_size x + 1
  form_size (cut xs) = exprs_size xs + 1
  form_size (both x y) = max (expr_size x) (expr_size y) + 1
  form_size (sends x y) = max (expr_size x) (expr_size y) + 1

  -- more than any expression of the list
  pub exprs_size : ExprsV → ℕ
  exprs_size no_item = 0
  exprs_size (item x xs) = max (expr_size x + 1) (exprs_size xs)

  -- more than any alternative of the list
  pub branches_size : BranchesV → ℕ
  branches_size no_branch = 0
  branches_size (branch error x bs) = max (expr_size x + 2) (branches_size bs)

abbrev pub branch_size : BranchV → ℕ
branch_size b = expr_size b.body + 1

abbrev pub list_size : List ExprV → ℕ
list_size xs = exprs_size (exprs_of xs)

abbrev pub branch_list_size : List BranchV → ℕ
branch_list_size bs = branches_size (branches_of bs)

-- no member of a list is as large as the list
pub most_le-list_size : (xs : List ExprV) → most (λ x. expr_size x + 1) xs ≤ list_size xs
most_le-list_size (x ∷ xs) = omega (arith, most_le-list_size xs)
most_le-list_size [] = omega arith

pub most_le-branch_list_size : (bs : List BranchV) → most (λ b. branch_size b + 1) bs ≤ branch_list_size bs
most_le-branch_list_size [] = omega arith
most_le-branch_list_size (b ∷ bs) = omega (arith, most_le-branch_list_size bs)
