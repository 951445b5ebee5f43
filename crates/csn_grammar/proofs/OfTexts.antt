-- The rules of a text are shaped as they have to be, and their labels are labels: shown along the tokens that
-- they are read from, each spelled as its kind.
use Rattle.std.proofs.Common.{◌≡◌, ℕ, ◌≤◌, List, [], ◌∷◌, length, sym, ap, subst, arith}
use Rattle.csn_lexer.specs.declared.token.Token.{Token}
use Rattle.csn_lexer.specs.Word.{IsWord}
use Rattle.csn_lexer.specs.Spelling.{IsSpelled}
use Rattle.csn_lexer.specs.Tokens.{AreTokens, nothing}
use Rattle.csn_lexer.specs.Tokens as tokens
use Rattle.csn_desc.specs.declared.symbol.Symbol.{Symbol}
use Rattle.csn_desc.specs.Label.{IsLabel}
use Rattle.csn_desc.proofs.LabelFacts.{word_is_label, label_behind_word}
use Rattle.csn_grammar.specs.declared.exponent.Exponent.{Exponent}
use Rattle.csn_grammar.specs.declared.rules.Rule.{Rule}
use Rattle.csn_grammar.specs.ExprV.{ExprV, expr, lits, null, bit, octet, name, labelled, group, seq, choice, power}
use Rattle.csn_grammar.specs.ExprV.{cut, both, sends, ExprsV, BranchesV, item_list, branch_list}
use Rattle.csn_grammar.specs.RulesV.{RulesV}
use Rattle.csn_grammar.specs.Shaped.{IsShaped, ItemsShaped, BranchesShaped, AreShaped}
use Rattle.csn_grammar.specs.Labelled.{IsLabelled, ItemsLabelled, BranchesLabelled, AreLabelled}
use Rattle.csn_grammar.specs.TokenV.{TokenV, token, tokens_in}
use Rattle.csn_grammar.specs.Place.{HasRules}
use Rattle.csn_grammar.specs.Counts.{IsName, IsVal, IsProduct, IsCount, IsExponent, last_word, more_words, val, alone}
use Rattle.csn_grammar.specs.Counts.{factor_before, factor_behind, number, product, summand_behind, summand_before}
use Rattle.csn_grammar.specs.Counts.{count, times_number, times_val, times_count, any, any_star, any_stars}
use Rattle.csn_grammar.specs.Writing.{IsLits}
use Rattle.csn_grammar.specs.Grammar.{IsBase, IsSide, IsWindow, IsItem, AreItems, IsSeq, AreBranches, IsExpr, IsRule}
use Rattle.csn_grammar.specs.Grammar.{AreRules, components_of, bit_base, octet_base, name_base, labelled_base}
use Rattle.csn_grammar.specs.Grammar.{group_base, lits_side, null_side, base_side, power_side, cut_side, side_window}
use Rattle.csn_grammar.specs.Grammar.{both_window, window_item, sends_item, last_item, more_items, one_item, items}
use Rattle.csn_grammar.specs.Grammar.{cut_items, last_branch, last_error, more_branches, more_errors, one_seq}
use Rattle.csn_grammar.specs.Grammar.{branches, rule, last_rule, more_rules}

-- ---- tokens

-- each token is spelled as one of its kind
abbrev AreSpelled : List TokenV → Type 0
AreSpelled [] = Unit {0}
AreSpelled (token k s n w ∷ ts) = IsSpelled k w × AreSpelled ts

tokens_spelled : {text : List ℕ} {at to : ℕ} {ts : List Token} → AreTokens text at ts to → AreSpelled (tokens_in text ts)
tokens_spelled (nothing e) = tt
tokens_spelled (tokens.token next rest) = (next.1.spelled, tokens_spelled rest)

-- the tokens behind a part are spelled
behind : {ts rest : List TokenV} → rest ≡ ts → AreSpelled ts → AreSpelled rest
behind e h = subst AreSpelled (sym e) h

-- what is read has this, and the tokens behind it are spelled
record Leaves (P : Type 0) (rest : List TokenV) : Type 0 where
  has : P
  left : AreSpelled rest

leaves : {P Q : Type 0} {rest : List TokenV} → (P → Q) → Leaves P rest → Leaves Q rest
leaves f h = record { has = f h.has; left = h.left }

-- ---- names and exponents

name_read : {ts rest : List TokenV} {l : List ℕ} → IsName ts l rest → AreSpelled ts → Leaves (IsLabel l) rest
name_read (last_word {w = w} e) h = record { has = word_is_label w h.0; left = behind e h.1 }
name_read (more_words {w = w} {name = l} is) h = leaves (label_behind_word w l h.0) (name_read is h.1)

val_read : {ts rest : List TokenV} {l : List ℕ} → IsVal ts l rest → AreSpelled ts → AreSpelled rest
val_read (val e is) h = (name_read is h.1.1).left.1

product_read : {ts rest : List TokenV} {m : ℕ} {l : List ℕ} → IsProduct ts m l rest → AreSpelled ts → AreSpelled rest
product_read (alone is) h = val_read is h
product_read (factor_before n is) h = val_read is h.1.1
product_read (factor_behind is n) h = (val_read is h).1.1

count_read : {ts rest : List TokenV} {e : Exponent} → IsCount ts e rest → AreSpelled ts → AreSpelled rest
count_read (number n e) h = behind e h.1
count_read (product is) h = product_read is h
count_read (summand_behind is n) h = (product_read is h).1.1
count_read (summand_before n is) h = product_read is h.1.1

exponent_read : {ts rest : List TokenV} {e : Exponent} {n : ℕ} → IsExponent ts e n rest → AreSpelled ts → AreSpelled rest
exponent_read (count is) h = (count_read is h.1).1
exponent_read (times_number n e) h = behind e h.1.1
exponent_read (times_val e is) h = (name_read is h.1.1.1).left.1
exponent_read (times_count is) h = (count_read is h.1.1).1
exponent_read (any e) h = behind e h.1
exponent_read (any_star e) h = behind e h.1.1.1
exponent_read (any_stars e) h = behind e h.1.1.1

-- ---- expressions

abbrev Good : ExprV → Type 0
Good x = IsShaped x × IsLabelled x

abbrev GoodItems : ExprsV → Type 0
GoodItems xs = (1 ≤ length (item_list xs)) × ItemsShaped xs × ItemsLabelled xs

abbrev GoodBranches : BranchesV → Type 0
GoodBranches bs = (1 ≤ length (branch_list bs)) × BranchesShaped bs × BranchesLabelled bs

word_some : (w : List ℕ) → IsWord w → 1 ≤ length w
word_some [] h = absurd (cc)
word_some (c ∷ w) h = omega arith

lits_some : (w : List ℕ) (run : List Symbol) → IsLits w run → 1 ≤ length w → 1 ≤ length run
lits_some w [] is some = let none : length w ≡ 0 = ap (λ l. length l) is in absurd (omega arith)
lits_some w (x ∷ run) is some = omega arith

-- the components of a truncation in braces
good_components : (x : ExprV) → Good x → Good (components_of x)
good_components (expr s n (seq xs)) h = ((omega (arith, h.0.0), h.0.1), h.1)
good_components (expr s n (lits run)) h = ((omega arith, (h.0, tt)), (h.1, tt))
good_components (expr s n null) h = ((omega arith, (h.0, tt)), (h.1, tt))
good_components (expr s n bit) h = ((omega arith, (h.0, tt)), (h.1, tt))
good_components (expr s n octet) h = ((omega arith, (h.0, tt)), (h.1, tt))
good_components (expr s n (name m)) h = ((omega arith, (h.0, tt)), (h.1, tt))
good_components (expr s n (labelled label x)) h = ((omega arith, (h.0, tt)), (h.1, tt))
good_components (expr s n (group x)) h = ((omega arith, (h.0, tt)), (h.1, tt))
good_components (expr s n (choice bs)) h = ((omega arith, (h.0, tt)), (h.1, tt))
good_components (expr s n (power x k)) h = ((omega arith, (h.0, tt)), (h.1, tt))
good_components (expr s n (cut xs)) h = ((omega arith, (h.0, tt)), (h.1, tt))
good_components (expr s n (both x y)) h = ((omega arith, (h.0, tt)), (h.1, tt))
good_components (expr s n (sends x y)) h = ((omega arith, (h.0, tt)), (h.1, tt))

mutual
  base_read : {d : ℕ} {ts rest : List TokenV} {x : ExprV} → IsBase d ts x rest → AreSpelled ts → Leaves (Good x) rest
  base_read (bit_base is e) h = record { has = (tt, tt); left = behind e h.1 }
  base_read (octet_base is e) h = record { has = (tt, tt); left = behind e h.1 }
  base_read (name_base n) h = record { has = (tt, tt); left = (name_read n h.1).left.1 }
  base_read (labelled_base deep n is) h =
      let label = name_read n h.1 in
      let inner = expr_read is label.left.1 in record { has = (inner.has.0, (label.has, inner.has.1)); left = inner.left.1 }
  base_read (group_base deep is apart) h = let inner = expr_read is h.1 in record { has = inner.has; left = inner.left.1 }

  side_read : {d : ℕ} {ts rest : List TokenV} {x : ExprV} → IsSide d ts x rest → AreSpelled ts → Leaves (Good x) rest
  side_read (lits_side {w = w} {run = run} is e) h = record { has = (lits_some w run is (word_some w h.0), tt); left = behind e h.1 }
  side_read (null_side is e) h = record { has = (tt, tt); left = behind e h.1 }
  side_read (base_side is) h = base_read is h
  side_read (power_side is k) h = let inner = base_read is h in record { has = inner.has; left = exponent_read k inner.left }
  side_read (cut_side {x = x} deep is) h = let inner = expr_read is h.1 in record { has = good_components x inner.has; left = inner.left.1.1 }

  window_read : {d : ℕ} {ts rest : List TokenV} {x : ExprV} → IsWindow d ts x rest → AreSpelled ts → Leaves (Good x) rest
  window_read (side_window is) h = side_read is h
  window_read (both_window is are) h =
      let left = side_read is h in
      let right = side_read are left.left.1 in record { has = ((left.has.0, right.has.0), (left.has.1, right.has.1)); left = right.left }

  item_read : {d : ℕ} {ts rest : List TokenV} {x : ExprV} → IsItem d ts x rest → AreSpelled ts → Leaves (Good x) rest
  item_read (window_item is) h = window_read is h
  item_read (sends_item is are) h =
      let left = window_read is h in
      let right = side_read are left.left.1 in record { has = ((left.has.0, right.has.0), (left.has.1, right.has.1)); left = right.left }

  items_read : {d s n : ℕ} {ts rest : List TokenV} {xs : ExprsV} → AreItems d ts xs s n rest → AreSpelled ts → Leaves (GoodItems xs) rest
  items_read (last_item is) h = let one = item_read is h in record { has = (omega arith, (one.has.0, tt), (one.has.1, tt)); left = one.left }
  items_read (more_items is are) h =
      let one = item_read is h in let more = items_read are one.left in record {
        has =
            (omega (arith, more.has.0), (one.has.0, more.has.1), (one.has.1, more.has.2));
        left = more.left;
      }

  seq_read : {d : ℕ} {ts rest : List TokenV} {x : ExprV} → IsSeq d ts x rest → AreSpelled ts → Leaves (Good x) rest
  seq_read (one_item is) h = item_read is h
  seq_read (items are) h = let all = items_read are h in record { has = ((omega arith, all.has.1), all.has.2); left = all.left }
  seq_read (cut_items are) h = let all = items_read are h in record { has = ((all.has.0, all.has.1), all.has.2); left = all.left.1 }

  branches_read : {d n : ℕ} {ts rest : List TokenV} {bs : BranchesV} → AreBranches d ts bs n rest → AreSpelled ts → Leaves (GoodBranches bs) rest
  branches_read (last_branch is) h = let one = seq_read is h.1 in record { has = (omega arith, (one.has.0, tt), (one.has.1, tt)); left = one.left }
  branches_read (last_error is) h = let one = seq_read is h.1 in record { has = (omega arith, (one.has.0, tt), (one.has.1, tt)); left = one.left }
  branches_read (more_branches is are) h =
      let one = seq_read is h.1 in let more = branches_read are one.left in record {
        has =
            (omega (arith, more.has.0), (one.has.0, more.has.1), (one.has.1, more.has.2));
        left = more.left;
      }
  branches_read (more_errors is are) h =
      let one = seq_read is h.1 in let more = branches_read are one.left in record {
        has =
            (omega (arith, more.has.0), (one.has.0, more.has.1), (one.has.1, more.has.2));
        left = more.left;
      }

  expr_read : {d : ℕ} {ts rest : List TokenV} {x : ExprV} → IsExpr d ts x rest → AreSpelled ts → Leaves (Good x) rest
  expr_read (one_seq is) h = seq_read is h
  expr_read (branches is are) h =
      let one = seq_read is h in let more = branches_read are one.left in record {
        has =
            ((omega (arith, more.has.0), (one.has.0, more.has.1)), (one.has.1, more.has.2));
        left = more.left;
      }

-- ---- rules

rule_read : {ts rest : List TokenV} {r : Rule} → IsRule ts r rest → AreSpelled ts → Leaves (Good r.body) rest
rule_read (rule n is) h = let inner = expr_read is (name_read n h.1).left.1.1 in record { has = inner.has; left = inner.left.1 }

rules_read : {ts : List TokenV} {rules : RulesV} → AreRules ts rules → AreSpelled ts → AreShaped rules × AreLabelled rules
rules_read (last_rule is) h = let one = rule_read is h in ((one.has.0, tt), (one.has.1, tt))
rules_read (more_rules is are) h =
    let one = rule_read is h in let more = rules_read are one.left in ((one.has.0, more.0), (one.has.1, more.1))

pub text_shaped : (text : List ℕ) (rules : RulesV) → HasRules text rules → AreShaped rules
text_shaped text rules h = (rules_read h.are (tokens_spelled h.read.tokens)).0

pub text_labelled : (text : List ℕ) (rules : RulesV) → HasRules text rules → AreLabelled rules
text_labelled text rules h = (rules_read h.are (tokens_spelled h.read.tokens)).1
