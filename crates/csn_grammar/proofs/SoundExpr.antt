-- Tokens that the reader takes in the body of a rule are an expression.
use Rattle.std.proofs.Common.{◌≡◌, ℕ, Bool, true, false, List, [], ◌∷◌, ◌++◌, length, Some, refl, ap, ◌∙◌, subst, append_assoc}
use Rattle.csn_lexer.specs.declared.token.TokenKind.TheVariants as kind
use Rattle.csn_grammar.specs.declared.exponent.Exponent.{Exponent}
use Rattle.csn_grammar.specs.declared.reader.body.Frame.{Frame}
use Rattle.csn_grammar.specs.declared.reader.body.Joint.{Joint}
use Rattle.csn_grammar.specs.declared.reader.body.Joint.TheVariants.{Alone, Window, Sends}
use Rattle.csn_grammar.specs.declared.reader.body.Level.{Level}
use Rattle.csn_grammar.specs.declared.reader.body.Opening.TheVariants.{Brace, Label}
use Rattle.csn_grammar.specs.ExprV.{ExprV, expr, FormV, labelled, group, seq, choice, cut, ExprsV, no_item, item}
use Rattle.csn_grammar.specs.ExprV.{item_list, exprs_of, BranchesV, no_branch, branch, BranchV, branch_list}
use Rattle.csn_grammar.specs.ExprV.{branches_of}
use Rattle.csn_grammar.specs.RulesV.{RulesV}
use Rattle.csn_grammar.specs.TokenV.{TokenV, token}
use Rattle.csn_grammar.specs.Counts.{IsExponent}
use Rattle.csn_grammar.specs.Grammar.{IsSide, IsWindow, side_window, both_window, IsItem, window_item, sends_item}
use Rattle.csn_grammar.specs.Grammar.{AreItems, last_item, more_items, IsSeq, one_item, items, cut_items, AreBranches}
use Rattle.csn_grammar.specs.Grammar.{last_branch, last_error, more_branches, more_errors, IsExpr, one_seq, branches}
use Rattle.csn_grammar.specs.Grammar.{AreRules}
use Rattle.csn_grammar.specs.reader.Building.{start_of, end_of, seq_with, cut_with, choice_with, both_of, sends_of, power_of, cut_group}
use Rattle.csn_grammar.specs.reader.BodySteps.{fresh}
use Rattle.csn_grammar.specs.reader.RuleSteps.{rule_of}
use Rattle.csn_grammar.proofs.Members.{exprs_of-item_list, branches_of-branch_list, no_items}
use Rattle.csn_grammar.proofs.CompleteExpr.{MayFollow}

-- the tokens are the rest of the rules behind these
pub data Rest (rules : RulesV) (ts : List TokenV) (out : RulesV) : Type 0 where
  rest_none : ts ≡ [] → out ≡ rules → Rest rules ts out
  rest_more : (rs : RulesV) → AreRules ts rs → out ≡ rules ++ rs → Rest rules ts out

-- some items, an item, and items behind it, as a sequence and as a truncation
abbrev pub begin_with : List ExprV → ExprV → ℕ
begin_with [] x = start_of x
begin_with (y ∷ ys) x = start_of y

abbrev pub all_items : List ExprV → ExprV → ExprsV → ExprsV
all_items xs x ys = exprs_of ((xs ++ x ∷ []) ++ item_list ys)

abbrev pub seq_all : List ExprV → ExprV → ExprsV → ℕ → ExprV
seq_all xs x ys n = expr (begin_with xs x) n (seq (all_items xs x ys))

abbrev pub cut_all : List ExprV → ExprV → ExprsV → ℕ → ExprV
cut_all xs x ys n = expr (begin_with xs x) n (cut (all_items xs x ys))

abbrev pub begin_branch : List BranchV → ExprV → ℕ
begin_branch [] q = start_of q
begin_branch (b ∷ bs) q = start_of b.body

-- alternatives, one more, and alternatives behind it, as a choice
abbrev pub choice_all : List BranchV → Bool → ExprV → BranchesV → ℕ → ExprV
choice_all bs e q brs n = expr (begin_branch bs q) n (choice (branches_of (bs ++ record { error = e; body = q } ∷ branch_list brs)))

module _ (rules : RulesV) (begin : ℕ) (title : List ℕ) where
  mutual
    -- behind an expression that is whole: what closes it, and what stands behind
    pub data Closes : List Frame → ExprV → List TokenV → RulesV → Type 0 where
      closes_rule : {x : ExprV} {s n : ℕ} {w : List ℕ} {ts : List TokenV} {out : RulesV}
          → Rest (rules ++ rule_of begin title x n ∷ []) ts out → Closes [] x (token kind.Semicolon s n w ∷ ts) out
      closes_brace : {f : Frame} {frames : List Frame} {x : ExprV} {s n : ℕ} {w : List ℕ} {ts : List TokenV} {out : RulesV} → f.opening ≡ Brace
          → AfterBase frames f.level (expr f.start n (group x)) ts out → Closes (f ∷ frames) x (token kind.BraceRight s n w ∷ ts) out
      closes_label : {f : Frame} {frames : List Frame} {x : ExprV} {s n : ℕ} {l w : List ℕ} {ts : List TokenV} {out : RulesV} → f.opening ≡ Label l
          → AfterBase frames f.level (expr f.start n (labelled l x)) ts out → Closes (f ∷ frames) x (token kind.Greater s n w ∷ ts) out

    pub data AfterSeq : List Frame → List BranchV → Bool → ExprV → List TokenV → RulesV → Type 0 where
      seq_closes : {frames : List Frame} {bs : List BranchV} {e : Bool} {q : ExprV} {ts : List TokenV} {out : RulesV}
          → Closes frames (choice_with bs e q) ts out → AfterSeq frames bs e q ts out
      seq_more : {frames : List Frame} {bs : List BranchV} {e : Bool} {q x : ExprV} {ts : List TokenV} {out : RulesV}
          (brs : BranchesV) (n : ℕ) (rest : List TokenV)
          → AreBranches (length frames) ts brs n rest → x ≡ choice_all bs e q brs n → Closes frames x rest out → AfterSeq frames bs e q ts out

    pub data AfterItem : List Frame → List BranchV → Bool → List ExprV → ExprV → List TokenV → RulesV → Type 0 where
      item_seq : {frames : List Frame} {bs : List BranchV} {e : Bool} {xs : List ExprV} {x : ExprV} {ts : List TokenV} {out : RulesV}
          → AfterSeq frames bs e (seq_with xs x) ts out → AfterItem frames bs e xs x ts out
      item_cut : {frames : List Frame} {bs : List BranchV} {e : Bool} {xs : List ExprV} {x : ExprV} {s n : ℕ} {w : List ℕ} {ts : List TokenV} {out : RulesV}
          → AfterSeq frames bs e (cut_with xs x n) ts out → AfterItem frames bs e xs x (token kind.SlashSlash s n w ∷ ts) out
      item_more : {frames : List Frame} {bs : List BranchV} {e : Bool} {xs : List ExprV} {x q : ExprV} {ts : List TokenV} {out : RulesV}
          (ys : ExprsV) (s n : ℕ) (rest : List TokenV) → AreItems (length frames) ts ys s n rest → q ≡ seq_all xs x ys n
          → AfterSeq frames bs e q rest out → AfterItem frames bs e xs x ts out
      item_more_cut : {frames : List Frame} {bs : List BranchV} {e : Bool} {xs : List ExprV} {x q : ExprV} {ts : List TokenV} {out : RulesV}
          (ys : ExprsV) (s n s1 n1 : ℕ) (w : List ℕ) (rest : List TokenV) → AreItems (length frames) ts ys s n (token kind.SlashSlash s1 n1 w ∷ rest)
          → q ≡ cut_all xs x ys n1 → AfterSeq frames bs e q rest out → AfterItem frames bs e xs x ts out

    pub data AfterWindow : List Frame → List BranchV → Bool → List ExprV → ExprV → List TokenV → RulesV → Type 0 where
      window_whole : {frames : List Frame} {bs : List BranchV} {e : Bool} {xs : List ExprV} {x : ExprV} {ts : List TokenV} {out : RulesV}
          → AfterItem frames bs e xs x ts out → AfterWindow frames bs e xs x ts out
      window_sends : {frames : List Frame} {bs : List BranchV} {e : Bool} {xs : List ExprV} {x : ExprV} {s n : ℕ}
          {w : List ℕ} {ts : List TokenV} {out : RulesV}
          (y : ExprV) (rest : List TokenV) → IsSide (length frames) ts y rest → AfterItem frames bs e xs (sends_of x y) rest out
          → AfterWindow frames bs e xs x (token kind.Equal s n w ∷ ts) out

    pub data AfterSide : List Frame → List BranchV → Bool → List ExprV → Joint → ExprV → List TokenV → RulesV → Type 0 where
      side_alone : {frames : List Frame} {bs : List BranchV} {e : Bool} {xs : List ExprV} {x : ExprV} {ts : List TokenV} {out : RulesV}
          → AfterWindow frames bs e xs x ts out → AfterSide frames bs e xs Alone x ts out
      side_both : {frames : List Frame} {bs : List BranchV} {e : Bool} {xs : List ExprV} {x : ExprV} {s n : ℕ} {w : List ℕ} {ts : List TokenV} {out : RulesV}
          (y : ExprV) (rest : List TokenV) → IsSide (length frames) ts y rest → AfterWindow frames bs e xs (both_of x y) rest out
          → AfterSide frames bs e xs Alone x (token kind.Ampersand s n w ∷ ts) out
      side_in_window : {frames : List Frame} {bs : List BranchV} {e : Bool} {xs : List ExprV} {l x : ExprV} {ts : List TokenV} {out : RulesV}
          → AfterWindow frames bs e xs (both_of l x) ts out → AfterSide frames bs e xs (Window l) x ts out
      side_in_sends : {frames : List Frame} {bs : List BranchV} {e : Bool} {xs : List ExprV} {l x : ExprV} {ts : List TokenV} {out : RulesV}
          → AfterItem frames bs e xs (sends_of l x) ts out → AfterSide frames bs e xs (Sends l) x ts out

    pub data AfterBase : List Frame → Level → ExprV → List TokenV → RulesV → Type 0 where
      base_whole : {frames : List Frame} {level : Level} {x : ExprV} {ts : List TokenV} {out : RulesV} → MayFollow x ts
          → AfterSide frames level.branches level.error level.items level.joint x ts out → AfterBase frames level x ts out
      base_power : {frames : List Frame} {level : Level} {x : ExprV} {ts : List TokenV} {out : RulesV} (e : Exponent) (n : ℕ) (rest : List TokenV)
          → IsExponent ts e n rest → AfterSide frames level.branches level.error level.items level.joint (power_of x n e) rest out
          → AfterBase frames level x ts out
      base_cut : {frames : List Frame} {level : Level} {x y : ExprV} {s n : ℕ} {w : List ℕ} {ts : List TokenV} {out : RulesV} → cut_group x n ≡ Some y
          → AfterSide frames level.branches level.error level.items level.joint y ts out → AfterBase frames level x (token kind.SlashSlash s n w ∷ ts) out

  -- a side, and what stands behind it
  pub record Sides (frames : List Frame) (level : Level) (ts : List TokenV) (out : RulesV) : Type 0 where
    pub side : ExprV
    pub rest : List TokenV
    pub is : IsSide (length frames) ts side rest
    pub behind : AfterSide frames level.branches level.error level.items level.joint side rest out

  -- an item, and what stands behind it
  pub record Items (frames : List Frame) (bs : List BranchV) (e : Bool) (xs : List ExprV) (ts : List TokenV) (out : RulesV) : Type 0 where
    pub one : ExprV
    pub rest : List TokenV
    pub is : IsItem (length frames) ts one rest
    pub behind : AfterItem frames bs e xs one rest out

  pub record Seqs (frames : List Frame) (bs : List BranchV) (e : Bool) (ts : List TokenV) (out : RulesV) : Type 0 where
    pub one : ExprV
    pub rest : List TokenV
    pub is : IsSeq (length frames) ts one rest
    pub behind : AfterSeq frames bs e one rest out

  pub record Exprs (frames : List Frame) (ts : List TokenV) (out : RulesV) : Type 0 where
    pub one : ExprV
    pub rest : List TokenV
    pub is : IsExpr (length frames) ts one rest
    pub behind : Closes frames one rest out

  window_gather : {frames : List Frame} {bs : List BranchV} {e : Bool} {xs : List ExprV} {ts middle : List TokenV} {out : RulesV} (x : ExprV)
      → IsWindow (length frames) ts x middle → AfterWindow frames bs e xs x middle out → Items frames bs e xs ts out
  window_gather x is (window_whole b) = record { one = x; rest = _; is = window_item is; behind = b }
  window_gather (expr s n f) is (window_sends (expr s2 n2 g) rest right b) =
      record { one = sends_of (expr s n f) (expr s2 n2 g); rest = rest; is = sends_item is right; behind = b }

  pub side_gather : {frames : List Frame} {bs : List BranchV} {e : Bool} {xs : List ExprV} {ts middle : List TokenV} {out : RulesV} (x : ExprV)
      → IsSide (length frames) ts x middle → AfterSide frames bs e xs Alone x middle out → Items frames bs e xs ts out
  side_gather x is (side_alone b) = window_gather x (side_window is) b
  side_gather (expr s n f) is (side_both (expr s2 n2 g) rest right b) =
      window_gather (both_of (expr s n f) (expr s2 n2 g)) (both_window is right) b

  -- one more item
  seq_one : (xs : List ExprV) (x i : ExprV) → seq_with (xs ++ x ∷ []) i ≡ seq_all xs x (item i no_item) (end_of i)
  seq_one [] x i = refl
  seq_one (y ∷ ys) x i = refl

  cut_one : (xs : List ExprV) (x i : ExprV) (n : ℕ) → cut_with (xs ++ x ∷ []) i n ≡ cut_all xs x (item i no_item) n
  cut_one [] x i n = refl
  cut_one (y ∷ ys) x i n = refl

  begin_next : (xs : List ExprV) (x i : ExprV) → begin_with (xs ++ x ∷ []) i ≡ begin_with xs x
  begin_next [] x i = refl
  begin_next (y ∷ ys) x i = refl

  all_next : (xs : List ExprV) (x i : ExprV) (ys : ExprsV) → all_items (xs ++ x ∷ []) i ys ≡ all_items xs x (item i ys)
  all_next xs x i ys = ap exprs_of (append_assoc (xs ++ x ∷ []) (i ∷ []) (item_list ys))

  seq_next : (xs : List ExprV) (x i : ExprV) (ys : ExprsV) (n : ℕ) → seq_all (xs ++ x ∷ []) i ys n ≡ seq_all xs x (item i ys) n
  seq_next xs x i ys n = ap (λ b. expr b n (seq (all_items (xs ++ x ∷ []) i ys))) (begin_next xs x i)
      ∙ ap (λ a. expr (begin_with xs x) n (seq a)) (all_next xs x i ys)

  cut_next : (xs : List ExprV) (x i : ExprV) (ys : ExprsV) (n : ℕ) → cut_all (xs ++ x ∷ []) i ys n ≡ cut_all xs x (item i ys) n
  cut_next xs x i ys n = ap (λ b. expr b n (cut (all_items (xs ++ x ∷ []) i ys))) (begin_next xs x i)
      ∙ ap (λ a. expr (begin_with xs x) n (cut a)) (all_next xs x i ys)

  -- one more alternative
  choice_one : (bs : List BranchV) (e : Bool) (q : ExprV) (d : Bool) (i : ExprV)
      → choice_with (bs ++ record { error = e; body = q } ∷ []) d i ≡ choice_all bs e q (branch d i no_branch) (end_of i)
  choice_one [] e q d i = refl
  choice_one (b ∷ bs) e q d i =
      ap (λ l. expr (start_of b.body) (end_of i) (choice (branches_of (b ∷ l))))
      (append_assoc bs (record { error = e; body = q } ∷ []) (record { error = d; body = i } ∷ []))

  begin_branch_next : (bs : List BranchV) (e : Bool) (q i : ExprV) → begin_branch (bs ++ record { error = e; body = q } ∷ []) i ≡ begin_branch bs q
  begin_branch_next [] e q i = refl
  begin_branch_next (b ∷ bs) e q i = refl

  choice_next : (bs : List BranchV) (e : Bool) (q : ExprV) (d : Bool) (i : ExprV) (brs : BranchesV) (n : ℕ)
      → choice_all (bs ++ record { error = e; body = q } ∷ []) d i brs n ≡ choice_all bs e q (branch d i brs) n
  choice_next bs e q d i brs n =
      ap (λ b. expr b n
      (choice (branches_of ((bs ++ record { error = e; body = q } ∷ []) ++ record { error = d; body = i }
      ∷ branch_list brs)))) (begin_branch_next bs e q i)
      ∙ ap (λ l. expr (begin_branch bs q) n (choice (branches_of l)))
      (append_assoc bs (record { error = e; body = q } ∷ []) (record { error = d; body = i } ∷ branch_list brs))

  pub more_behind : {frames : List Frame} {bs : List BranchV} {e : Bool} {xs : List ExprV} {x : ExprV} {ts middle : List TokenV} {out : RulesV} (i : ExprV)
      → IsItem (length frames) ts i middle → AfterItem frames bs e (xs ++ x ∷ []) i middle out → AfterItem frames bs e xs x ts out
  more_behind {xs = xs} {x = x} {middle = middle} (expr s n f) is (item_seq a) =
      item_more (item (expr s n f) no_item) s n middle (last_item is) (seq_one xs x (expr s n f)) a
  more_behind {xs = xs} {x = x} (expr s n f) is (item_cut {s = s1} {n = n1} {w = w} {ts = rest} a) =
      item_more_cut (item (expr s n f) no_item) s n s1 n1 w rest (last_item is) (cut_one xs x (expr s n f) n1) a
  more_behind {xs = xs} {x = x} (expr s n f) is (item_more ys s1 n1 rest more q a) =
      item_more (item (expr s n f) ys) s n1 rest (more_items is more) (q ∙ seq_next xs x (expr s n f) ys n1) a
  more_behind {xs = xs} {x = x} (expr s n f) is (item_more_cut ys s1 n1 s2 n2 w rest more q a) =
      item_more_cut (item (expr s n f) ys) s n1 s2 n2 w rest (more_items is more) (q ∙ cut_next xs x (expr s n f) ys n2) a

  first_behind : {frames : List Frame} {bs : List BranchV} {e : Bool} {ts middle : List TokenV} {out : RulesV} (i : ExprV)
      → IsItem (length frames) ts i middle → AfterItem frames bs e [] i middle out → Seqs frames bs e ts out
  first_behind {middle = middle} (expr s n f) is (item_seq a) = record { one = expr s n f; rest = middle; is = one_item is; behind = a }
  first_behind (expr s n f) is (item_cut {n = n1} {ts = rest} a) =
      record { one = cut_with [] (expr s n f) n1; rest = rest; is = cut_items (last_item is); behind = a }
  first_behind (expr s n f) is (item_more no_item s1 n1 rest more q a) = absurd (no_items more)
  first_behind {frames} {bs} {e} {out = out} (expr s n f) is (item_more (item b ys) s1 n1 rest more q a) =
      record {
        one = expr s n1 (seq (item (expr s n f) (item b ys)));
        rest = rest;
        is = items (more_items is more);
        behind = subst (λ y. AfterSeq frames bs e y rest out) (q ∙ ap (λ l. expr s n1 (seq (item (expr s n f) (item b l)))) (exprs_of-item_list ys)) a;
      }
  first_behind {frames} {bs} {e} {out = out} (expr s n f) is (item_more_cut ys s1 n1 s2 n2 w rest more q a) =
      record {
        one = expr s n2 (cut (item (expr s n f) ys));
        rest = rest;
        is = cut_items (more_items is more);
        behind = subst (λ y. AfterSeq frames bs e y rest out) (q ∙ ap (λ l. expr s n2 (cut (item (expr s n f) l))) (exprs_of-item_list ys)) a;
      }

  pub seq_gather : {frames : List Frame} {bs : List BranchV} {e : Bool} {ts middle : List TokenV} {out : RulesV} (x : ExprV)
      → IsSide (length frames) ts x middle → AfterSide frames bs e [] Alone x middle out → Seqs frames bs e ts out
  seq_gather x is b = let i = side_gather x is b in first_behind i.one i.is i.behind

  -- one more alternative, behind `|` or `!`
  next_behind : {frames : List Frame} {bs : List BranchV} {e : Bool} {q : ExprV} {ts middle : List TokenV} {out : RulesV} (t : TokenV) (d : Bool)
      → ((s n : ℕ) (f : FormV) → IsSeq (length frames) ts (expr s n f) middle → AreBranches (length frames) (t ∷ ts)
      (branch d (expr s n f) no_branch) n middle)
      → ((x : ExprV) (brs : BranchesV) (n : ℕ) (rest : List TokenV) → IsSeq (length frames) ts x middle → AreBranches (length frames) middle brs n rest
      → AreBranches (length frames) (t ∷ ts) (branch d x brs) n rest)
      → (i : ExprV) → IsSeq (length frames) ts i middle → AfterSeq frames (bs ++ record { error = e; body = q } ∷ []) d i middle out
      → AfterSeq frames bs e q (t ∷ ts) out
  next_behind {bs = bs} {e = e} {q = q} {middle = middle} t d last next (expr s n f) is (seq_closes c) =
      seq_more (branch d (expr s n f) no_branch) n middle (last s n f is) (choice_one bs e q d (expr s n f)) c
  next_behind {bs = bs} {e = e} {q = q} t d last next i is (seq_more brs n rest more same c) =
      seq_more (branch d i brs) n rest (next i brs n rest is more) (same ∙ choice_next bs e q d i brs n) c

  pub bar_behind : {frames : List Frame} {bs : List BranchV} {e : Bool} {q : ExprV} {ts middle : List TokenV}
      {out : RulesV} (s0 n0 : ℕ) (w0 : List ℕ) (i : ExprV)
      → IsSeq (length frames) ts i middle → AfterSeq frames (bs ++ record { error = e; body = q } ∷ []) false i middle out
      → AfterSeq frames bs e q (token kind.Bar s0 n0 w0 ∷ ts) out
  bar_behind s0 n0 w0 = next_behind (token kind.Bar s0 n0 w0) false (λ s n f is. last_branch is) (λ x brs n rest is more. more_branches is more)

  pub bang_behind : {frames : List Frame} {bs : List BranchV} {e : Bool} {q : ExprV} {ts middle : List TokenV}
      {out : RulesV} (s0 n0 : ℕ) (w0 : List ℕ) (i : ExprV)
      → IsSeq (length frames) ts i middle → AfterSeq frames (bs ++ record { error = e; body = q } ∷ []) true i middle out
      → AfterSeq frames bs e q (token kind.Bang s0 n0 w0 ∷ ts) out
  bang_behind s0 n0 w0 = next_behind (token kind.Bang s0 n0 w0) true (λ s n f is. last_error is) (λ x brs n rest is more. more_errors is more)

  expr_behind : {frames : List Frame} {ts middle : List TokenV} {out : RulesV} (q : ExprV)
      → IsSeq (length frames) ts q middle → AfterSeq frames [] false q middle out → Exprs frames ts out
  expr_behind {middle = middle} q is (seq_closes c) = record { one = q; rest = middle; is = one_seq is; behind = c }
  expr_behind {frames} {out = out} (expr s n f) is (seq_more brs n1 rest more same c) =
      record {
        one = expr s n1 (choice (branch false (expr s n f) brs));
        rest = rest;
        is = branches is more;
        behind = subst (λ x. Closes frames x rest out) (same ∙ ap (λ l. expr s n1 (choice (branch false (expr s n f) l))) (branches_of-branch_list brs)) c;
      }

  pub expr_gather : {frames : List Frame} {ts : List TokenV} {out : RulesV} → Sides frames fresh ts out → Exprs frames ts out
  expr_gather h = let q = seq_gather h.side h.is h.behind in expr_behind q.one q.is q.behind
