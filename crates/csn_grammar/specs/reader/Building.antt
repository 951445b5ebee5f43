-- The expressions that the parts of the reader make of smaller ones. `Grammar` says what expressions
-- there are; this is read only with the reader's proofs.
use Rattle.std.specs.Prelude.{ℕ, Bool, List, [], ◌∷◌, ◌++◌, Option, Some, None}
use Rattle.csn_grammar.specs.declared.exponent.Exponent.{Exponent}
use Rattle.csn_grammar.specs.declared.reader.body.Joint.{Joint}
use Rattle.csn_grammar.specs.declared.reader.body.Joint.TheVariants.{Alone, Window, Sends}
use Rattle.csn_grammar.specs.ExprV.{ExprV, expr, group, seq, choice, power, cut, both, sends, exprs_of, BranchV, branches_of}
use Rattle.csn_grammar.specs.Grammar.{components_of}

abbrev pub start_of : ExprV → ℕ
start_of (expr s n f) = s

abbrev pub end_of : ExprV → ℕ
end_of (expr s n f) = n

abbrev pub both_of : ExprV → ExprV → ExprV
both_of x y = expr (start_of x) (end_of y) (both x y)

abbrev pub sends_of : ExprV → ExprV → ExprV
sends_of x y = expr (start_of x) (end_of y) (sends x y)

abbrev pub power_of : ExprV → ℕ → Exponent → ExprV
power_of x n e = expr (start_of x) n (power x e)

-- a side with what stands before it in its item
abbrev pub joined : Joint → ExprV → ExprV
joined Alone x = x
joined (Window l) x = both_of l x
joined (Sends l) x = sends_of l x

-- the sequence of some items and a last one
abbrev pub seq_with : List ExprV → ExprV → ExprV
seq_with [] x = x
seq_with (y ∷ ys) x = expr (start_of y) (end_of x) (seq (exprs_of ((y ∷ ys) ++ x ∷ [])))

-- the truncation of them, up to the place n
abbrev pub cut_with : List ExprV → ExprV → ℕ → ExprV
cut_with [] x n = expr (start_of x) n (cut (exprs_of (x ∷ [])))
cut_with (y ∷ ys) x n = expr (start_of y) n (cut (exprs_of ((y ∷ ys) ++ x ∷ [])))

-- the choice of some alternatives and a last one
abbrev pub choice_with : List BranchV → Bool → ExprV → ExprV
choice_with [] error x = x
choice_with (b ∷ bs) error x =
    expr (start_of b.body) (end_of x) (choice (branches_of ((b ∷ bs) ++ record { error = error; body = x } ∷ [])))

-- braces before `//`, up to the place n
abbrev pub cut_group : ExprV → ℕ → Option ExprV
cut_group (expr s e (group x)) n = Some (expr s n (group (components_of x)))
cut_group (expr s e f) n = None
