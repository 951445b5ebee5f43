-- What a rule says, as contracts see it: the expressions of 3GPP TS 24.007 Annex B, each with the
-- place of its first byte in the text and the place behind its last one.
use Rattle.std.specs.Prelude.{ℕ, Bool, List, [], ◌∷◌}
use Rattle.csn_desc.specs.declared.symbol.Symbol.{Symbol}
use Rattle.csn_grammar.specs.declared.exponent.Exponent.{Exponent}

mutual
  -- an expression: where it begins and ends, and its form
  pub data ExprV : Type 0 where
    expr : ℕ → ℕ → FormV → ExprV

  pub data FormV : Type 0 where
    -- a literal word, as `01` or `L`
    lits : List Symbol → FormV
    -- `null`, `bit` and `octet`
    null : FormV
    bit : FormV
    octet : FormV
    -- `<name>`
    name : List ℕ → FormV
    -- `<label : x>`
    labelled : List ℕ → ExprV → FormV
    -- `{ x }`
    group : ExprV → FormV
    -- two or more items one after another
    seq : ExprsV → FormV
    -- two or more alternatives
    choice : BranchesV → FormV
    -- `x (3)`, `x * 3`, `x ** ` and the like
    power : ExprV → Exponent → FormV
    -- the components of a truncation `//`
    cut : ExprsV → FormV
    -- `x & y`
    both : ExprV → ExprV → FormV
    -- `x = y`
    sends : ExprV → ExprV → FormV

  -- a list of expressions: a type of its own, since `ExprV` cannot hold a list of itself
  pub data ExprsV : Type 0 where
    no_item : ExprsV
    item : ExprV → ExprsV → ExprsV

  -- a list of alternatives, each with whether it stands behind `!`
  pub data BranchesV : Type 0 where
    no_branch : BranchesV
    branch : Bool → ExprV → BranchesV → BranchesV

-- an alternative: whether it stands behind `!`, and its expression
pub record BranchV : Type 0 where
  pub error : Bool
  pub body : ExprV

abbrev pub item_list : ExprsV → List ExprV
item_list no_item = []
item_list (item x xs) = x ∷ item_list xs

abbrev pub exprs_of : List ExprV → ExprsV
exprs_of [] = no_item
exprs_of (x ∷ xs) = item x (exprs_of xs)

abbrev pub branch_list : BranchesV → List BranchV
branch_list no_branch = []
branch_list (branch error body bs) = record { error = error; body = body } ∷ branch_list bs

abbrev pub branches_of : List BranchV → BranchesV
branches_of [] = no_branch
branches_of (b ∷ bs) = branch b.error b.body (branches_of bs)
