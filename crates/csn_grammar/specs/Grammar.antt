-- The grammar: which tokens are which rules. The notation is that of 3GPP TS 24.007 Annex B and TS
-- 44.060 clause 11; its precedence, and that braces and labelled parts stand at most 64 deep inside
-- one another, are this project's own choice.
--
-- `IsSide d ts x rest` says that the tokens `ts` begin with the side x, which stands inside d braces
-- and labelled parts, and that `rest` is what stands behind it; the other relations are read in the
-- same way. An expression `expr s n f` begins at the place s and ends before the place n.
use Rattle.std.specs.Prelude.{◌≡◌, ℕ, suc, ◌<◌, true, false, List, [], ◌∷◌, codes}
use Rattle.csn_lexer.specs.declared.token.TokenKind.TheVariants.{Less, Greater, Colon, Define, Semicolon, BraceLeft}
use Rattle.csn_lexer.specs.declared.token.TokenKind.TheVariants.{BraceRight, Bar, Bang, Ampersand, Equal, SlashSlash}
use Rattle.csn_lexer.specs.declared.token.TokenKind.TheVariants.{Word}
use Rattle.csn_desc.specs.declared.symbol.Symbol.{Symbol}
use Rattle.csn_grammar.specs.declared.expr.TheConstants.{MOST_OPEN}
use Rattle.csn_grammar.specs.declared.exponent.Exponent.{Exponent}
use Rattle.csn_grammar.specs.declared.rules.Rule.{Rule}
use Rattle.csn_grammar.specs.ExprV.{ExprV, expr, FormV, lits, null, bit, octet, name, labelled, group, seq, choice}
use Rattle.csn_grammar.specs.ExprV.{power, cut, both, sends, ExprsV, no_item, item, BranchesV, no_branch, branch}
use Rattle.csn_grammar.specs.RulesV.{RulesV}
use Rattle.csn_grammar.specs.TokenV.{TokenV, token}
use Rattle.csn_grammar.specs.Writing.{IsLits}
use Rattle.csn_grammar.specs.Counts.{IsName, IsExponent}

-- the next token is not `//`
abbrev pub NotSlashes : List TokenV → Type 0
NotSlashes [] = Unit {0}
NotSlashes (token SlashSlash s n w ∷ ts) = ⊥
NotSlashes (token k s n w ∷ ts) = Unit {0}

-- what stands in braces before `//`, as the components of the truncation: the items of a sequence,
-- else one component
abbrev pub components_of : ExprV → ExprV
components_of (expr s n (seq xs)) = expr s n (cut xs)
components_of (expr s n f) = expr s n (cut (item (expr s n f) no_item))

mutual
  -- `bit`, `octet`, a name, a labelled part, or braces with no `//` behind them
  pub data IsBase : ℕ → List TokenV → ExprV → List TokenV → Type 0 where
    bit_base : {d s n : ℕ} {w : List ℕ} {ts rest : List TokenV} → w ≡ codes "bit" → rest ≡ ts
        → IsBase d (token Word s n w ∷ ts) (expr s n bit) rest
    octet_base : {d s n : ℕ} {w : List ℕ} {ts rest : List TokenV} → w ≡ codes "octet" → rest ≡ ts
        → IsBase d (token Word s n w ∷ ts) (expr s n octet) rest
    name_base : {d s n s1 n1 : ℕ} {w w1 l : List ℕ} {ts rest : List TokenV}
        → IsName ts l (token Greater s1 n1 w1 ∷ rest)
        → IsBase d (token Less s n w ∷ ts) (expr s n1 (name l)) rest
    labelled_base : {d s n s1 n1 s2 n2 : ℕ} {w w1 w2 l : List ℕ} {x : ExprV}
        {ts inner rest : List TokenV} → d < MOST_OPEN → IsName ts l (token Colon s1 n1 w1 ∷ inner)
        → IsExpr (suc d) inner x (token Greater s2 n2 w2 ∷ rest)
        → IsBase d (token Less s n w ∷ ts) (expr s n2 (labelled l x)) rest
    group_base : {d s n s1 n1 : ℕ} {w w1 : List ℕ} {x : ExprV} {ts rest : List TokenV} → d < MOST_OPEN
        → IsExpr (suc d) ts x (token BraceRight s1 n1 w1 ∷ rest) → NotSlashes rest
        → IsBase d (token BraceLeft s n w ∷ ts) (expr s n1 (group x)) rest

  -- a literal, `null`, a base, a base with an exponent, or braces with `//` behind them
  pub data IsSide : ℕ → List TokenV → ExprV → List TokenV → Type 0 where
    lits_side : {d s n : ℕ} {w : List ℕ} {run : List Symbol} {ts rest : List TokenV} → IsLits w run
        → rest ≡ ts → IsSide d (token Word s n w ∷ ts) (expr s n (lits run)) rest
    null_side : {d s n : ℕ} {w : List ℕ} {ts rest : List TokenV} → w ≡ codes "null" → rest ≡ ts
        → IsSide d (token Word s n w ∷ ts) (expr s n null) rest
    base_side : {d : ℕ} {x : ExprV} {ts rest : List TokenV} → IsBase d ts x rest
        → IsSide d ts x rest
    power_side : {d s n n1 : ℕ} {f : FormV} {e : Exponent} {ts middle rest : List TokenV}
        → IsBase d ts (expr s n f) middle → IsExponent middle e n1 rest
        → IsSide d ts (expr s n1 (power (expr s n f) e)) rest
    cut_side : {d s n s1 n1 s2 n2 : ℕ} {w w1 w2 : List ℕ} {x : ExprV} {ts rest : List TokenV}
        → d < MOST_OPEN
        → IsExpr (suc d) ts x (token BraceRight s1 n1 w1 ∷ token SlashSlash s2 n2 w2 ∷ rest)
        → IsSide d (token BraceLeft s n w ∷ ts) (expr s n2 (group (components_of x))) rest

  -- a side, or two with `&` between
  pub data IsWindow : ℕ → List TokenV → ExprV → List TokenV → Type 0 where
    both_window : {d s n s1 n1 s2 n2 : ℕ} {w : List ℕ} {f g : FormV} {ts middle rest : List TokenV}
        → IsSide d ts (expr s n f) (token Ampersand s1 n1 w ∷ middle)
        → IsSide d middle (expr s2 n2 g) rest
        → IsWindow d ts (expr s n2 (both (expr s n f) (expr s2 n2 g))) rest
    side_window : {d : ℕ} {x : ExprV} {ts rest : List TokenV} → IsSide d ts x rest
        → IsWindow d ts x rest

  -- the same, maybe with `=` and a side behind it
  pub data IsItem : ℕ → List TokenV → ExprV → List TokenV → Type 0 where
    window_item : {d : ℕ} {x : ExprV} {ts rest : List TokenV} → IsWindow d ts x rest
        → IsItem d ts x rest
    sends_item : {d s n s1 n1 s2 n2 : ℕ} {w : List ℕ} {f g : FormV} {ts middle rest : List TokenV}
        → IsWindow d ts (expr s n f) (token Equal s1 n1 w ∷ middle)
        → IsSide d middle (expr s2 n2 g) rest
        → IsItem d ts (expr s n2 (sends (expr s n f) (expr s2 n2 g))) rest

  -- one item or more, from the place s up to the place n
  pub data AreItems : ℕ → List TokenV → ExprsV → ℕ → ℕ → List TokenV → Type 0 where
    last_item : {d s n : ℕ} {f : FormV} {ts rest : List TokenV} → IsItem d ts (expr s n f) rest
        → AreItems d ts (item (expr s n f) no_item) s n rest
    more_items : {d s n s1 n1 : ℕ} {f : FormV} {xs : ExprsV} {ts middle rest : List TokenV}
        → IsItem d ts (expr s n f) middle → AreItems d middle xs s1 n1 rest
        → AreItems d ts (item (expr s n f) xs) s n1 rest

  -- an item, two or more items, or items before `//`
  pub data IsSeq : ℕ → List TokenV → ExprV → List TokenV → Type 0 where
    one_item : {d : ℕ} {x : ExprV} {ts rest : List TokenV} → IsItem d ts x rest → IsSeq d ts x rest
    items : {d s n : ℕ} {x y : ExprV} {xs : ExprsV} {ts rest : List TokenV}
        → AreItems d ts (item x (item y xs)) s n rest
        → IsSeq d ts (expr s n (seq (item x (item y xs)))) rest
    cut_items : {d s n s1 n1 : ℕ} {w : List ℕ} {xs : ExprsV} {ts rest : List TokenV}
        → AreItems d ts xs s n (token SlashSlash s1 n1 w ∷ rest)
        → IsSeq d ts (expr s n1 (cut xs)) rest

  -- one alternative or more, each behind `|` or `!`, up to the place n
  pub data AreBranches : ℕ → List TokenV → BranchesV → ℕ → List TokenV → Type 0 where
    last_branch : {d s n s1 n1 : ℕ} {w : List ℕ} {f : FormV} {ts rest : List TokenV}
        → IsSeq d ts (expr s n f) rest
        → AreBranches d (token Bar s1 n1 w ∷ ts) (branch false (expr s n f) no_branch) n rest
    last_error : {d s n s1 n1 : ℕ} {w : List ℕ} {f : FormV} {ts rest : List TokenV}
        → IsSeq d ts (expr s n f) rest
        → AreBranches d (token Bang s1 n1 w ∷ ts) (branch true (expr s n f) no_branch) n rest
    more_branches : {d s1 n1 n : ℕ} {w : List ℕ} {x : ExprV} {bs : BranchesV}
        {ts middle rest : List TokenV} → IsSeq d ts x middle → AreBranches d middle bs n rest
        → AreBranches d (token Bar s1 n1 w ∷ ts) (branch false x bs) n rest
    more_errors : {d s1 n1 n : ℕ} {w : List ℕ} {x : ExprV} {bs : BranchesV}
        {ts middle rest : List TokenV} → IsSeq d ts x middle → AreBranches d middle bs n rest
        → AreBranches d (token Bang s1 n1 w ∷ ts) (branch true x bs) n rest

  -- a sequence, or two or more as alternatives
  pub data IsExpr : ℕ → List TokenV → ExprV → List TokenV → Type 0 where
    one_seq : {d : ℕ} {x : ExprV} {ts rest : List TokenV} → IsSeq d ts x rest → IsExpr d ts x rest
    branches : {d s n n1 : ℕ} {f : FormV} {bs : BranchesV} {ts middle rest : List TokenV}
        → IsSeq d ts (expr s n f) middle → AreBranches d middle bs n1 rest
        → IsExpr d ts (expr s n1 (choice (branch false (expr s n f) bs))) rest

-- `< name > ::= expression ;`
pub data IsRule : List TokenV → Rule → List TokenV → Type 0 where
  rule : {s n s1 n1 s2 n2 s3 n3 : ℕ} {w w1 w2 w3 l : List ℕ} {x : ExprV}
      {ts inner rest : List TokenV}
      → IsName ts l (token Greater s1 n1 w1 ∷ token Define s2 n2 w2 ∷ inner)
      → IsExpr 0 inner x (token Semicolon s3 n3 w3 ∷ rest)
      → IsRule (token Less s n w ∷ ts)
      (record { name = l; span = record { start = s; end = n3 }; body = x }) rest

-- one rule or more, and no tokens behind them
pub data AreRules : List TokenV → RulesV → Type 0 where
  last_rule : {r : Rule} {ts : List TokenV} → IsRule ts r [] → AreRules ts (r ∷ [])
  more_rules : {r : Rule} {rs : RulesV} {ts rest : List TokenV} → IsRule ts r rest
      → AreRules rest rs → AreRules ts (r ∷ rs)
