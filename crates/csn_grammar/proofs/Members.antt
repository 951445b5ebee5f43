-- Items and alternatives, one by one and all together.
use Rattle.std.proofs.Common.{◌≡◌, ℕ, Bool, List, [], ◌∷◌, ◌++◌, refl, ap, ◌∙◌}
use Rattle.csn_grammar.specs.ExprV.{ExprV, expr, seq, choice, cut, ExprsV, no_item, item, BranchesV, no_branch}
use Rattle.csn_grammar.specs.ExprV.{branch, BranchV, item_list, exprs_of, branch_list, branches_of}
use Rattle.csn_grammar.specs.TokenV.{TokenV}
use Rattle.csn_grammar.specs.reader.Building.{start_of, end_of, seq_with, cut_with, choice_with}
use Rattle.csn_grammar.specs.Grammar.{AreItems, last_item, more_items, AreBranches}

pub exprs_of-item_list : (ys : ExprsV) → exprs_of (item_list ys) ≡ ys
exprs_of-item_list no_item = refl
exprs_of-item_list (item y ys) = ap (item y) (exprs_of-item_list ys)

pub branches_of-branch_list : (bs : BranchesV) → branches_of (branch_list bs) ≡ bs
branches_of-branch_list no_branch = refl
branches_of-branch_list (branch e x bs) = ap (branch e x) (branches_of-branch_list bs)

-- items and a last one that are two or more
pub seq_is : (zs : List ExprV) (x a b : ExprV) (ys : ExprsV) → zs ++ x ∷ [] ≡ item_list (item a (item b ys))
    → seq_with zs x ≡ expr (start_of a) (end_of x) (seq (item a (item b ys)))
seq_is [] x a b ys e = absurd (cc)
seq_is (z ∷ zs) x a b ys e =
    let first : z ≡ a = cc in
    let all : exprs_of ((z ∷ zs) ++ x ∷ []) ≡ item a (item b ys) = ap exprs_of e ∙ exprs_of-item_list (item a (item b ys)) in
    ap (λ i. expr (start_of z) (end_of x) (seq i)) all ∙ ap (λ y. expr (start_of y) (end_of x) (seq (item a (item b ys)))) first

pub cut_is : (zs : List ExprV) (x a : ExprV) (ys : ExprsV) (n : ℕ) → zs ++ x ∷ [] ≡ item_list (item a ys)
    → cut_with zs x n ≡ expr (start_of a) n (cut (item a ys))
cut_is [] x a ys n e =
    let first : x ≡ a = cc in
    let all : exprs_of (x ∷ []) ≡ item a ys = ap exprs_of e ∙ exprs_of-item_list (item a ys) in
    ap (λ i. expr (start_of x) n (cut i)) all ∙ ap (λ y. expr (start_of y) n (cut (item a ys))) first
cut_is (z ∷ zs) x a ys n e =
    let first : z ≡ a = cc in
    let all : exprs_of ((z ∷ zs) ++ x ∷ []) ≡ item a ys = ap exprs_of e ∙ exprs_of-item_list (item a ys) in
    ap (λ i. expr (start_of z) n (cut i)) all ∙ ap (λ y. expr (start_of y) n (cut (item a ys))) first

-- where items begin
pub items_begin : {d s n : ℕ} {ts rest : List TokenV} (a : ExprV) (ys : ExprsV) → AreItems d ts (item a ys) s n rest → start_of a ≡ s
items_begin a ys (last_item i) = refl
items_begin a ys (more_items i is) = refl

pub no_items : {d s n : ℕ} {ts rest : List TokenV} → AreItems d ts no_item s n rest → ⊥
no_items h = elim h [ ]

-- alternatives and a last one that are two or more
pub choice_is : (cs : List BranchV) (error e f : Bool) (x y z : ExprV) (bs : BranchesV)
    → cs ++ record { error = error; body = x } ∷ [] ≡ record { error = e; body = y } ∷ branch_list (branch f z bs)
    → choice_with cs error x ≡ expr (start_of y) (end_of x) (choice (branch e y (branch f z bs)))
choice_is [] error e f x y z bs h = absurd (cc)
choice_is (c ∷ cs) error e f x y z bs h =
    let first : c ≡ record { error = e; body = y } = cc in
    let all : branches_of ((c ∷ cs) ++ record { error = error; body = x } ∷ []) ≡ branch e y (branch f z bs) =
    ap branches_of h ∙ ap (branch e y) (branches_of-branch_list (branch f z bs)) in
    ap (λ i. expr (start_of c.body) (end_of x) (choice i)) all
    ∙ ap (λ (b : BranchV). expr (start_of b.body) (end_of x) (choice (branch e y (branch f z bs)))) first

pub no_branches : {d n : ℕ} {ts rest : List TokenV} → AreBranches d ts no_branch n rest → ⊥
no_branches h = elim h [ ]

-- the same where the places are known
pub whole_seq : (zs : List ExprV) (x a b : ExprV) (ys : ExprsV) (s n : ℕ) → zs ++ x ∷ [] ≡ item_list (item a (item b ys))
    → start_of a ≡ s → end_of x ≡ n → seq_with zs x ≡ expr s n (seq (item a (item b ys)))
whole_seq zs x a b ys s n e from to = seq_is zs x a b ys e ∙ cc

pub whole_cut : (zs : List ExprV) (x a : ExprV) (ys : ExprsV) (s n : ℕ) → zs ++ x ∷ [] ≡ item_list (item a ys)
    → start_of a ≡ s → cut_with zs x n ≡ expr s n (cut (item a ys))
whole_cut zs x a ys s n e from = cut_is zs x a ys n e ∙ cc

pub whole_choice : (cs : List BranchV) (error e f : Bool) (x y z : ExprV) (bs : BranchesV) (n : ℕ)
    → cs ++ record { error = error; body = x } ∷ [] ≡ record { error = e; body = y } ∷ branch_list (branch f z bs)
    → end_of x ≡ n → choice_with cs error x ≡ expr (start_of y) n (choice (branch e y (branch f z bs)))
whole_choice cs error e f x y z bs n h to = choice_is cs error e f x y z bs h ∙ cc
