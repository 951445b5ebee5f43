-- Rules in tail form: a list that a rule writes by its own name at its own end, as the rules of 3GPP
-- TS 44.060 and TS 44.018 do:
--
--     <X> ::= a b { 0 | 1 <X> } ;
--
-- No other rule may name itself, which is this project's own choice.
use Rattle.std.specs.Prelude.{ℕ, false, if◌then◌else◌, List, Option, Some, None}
use Rattle.std.specs.Option.{option_map, option_or}
use Rattle.csn_desc.specs.declared.symbol.Symbol.{Symbol}
use Rattle.csn_grammar.specs.declared.rules.Rule.{Rule}
use Rattle.csn_grammar.specs.ExprV.{ExprV, expr, lits, name, group, seq, choice, ExprsV, no_item, item, no_branch, branch}
use Rattle.csn_grammar.specs.Names.{same_name}

-- a literal word and where it begins in the text
pub record WordV : Type 0 where
  pub at : ℕ
  pub run : List Symbol

-- how a rule in tail form goes on and stops: where its braces begin in the text, the word before its own
-- name, and the word that is the other alternative
pub record EndV : Type 0 where
  pub braces : ℕ
  pub again : WordV
  pub stop : WordV

-- a rule in tail form: its items before the braces, one at least, and its end
pub record TailV : Type 0 where
  pub items : ExprsV
  pub end : EndV

-- a literal word
abbrev pub word_of : ExprV → Option WordV
word_of (expr s e (lits run)) = Some (record { at = s; run = run })
word_of _ = None

-- a literal word and the name n, one behind the other and no more
abbrev pub again_of : List ℕ → ExprV → Option WordV
again_of n (expr s e (seq (item x (item (expr s' e' (name m)) no_item)))) =
    if same_name m n then word_of x else None
again_of n _ = None

abbrev pub end_with : ℕ → Option WordV → Option WordV → Option EndV
end_with braces (Some again) (Some stop) = Some (record { braces = braces; again = again; stop = stop })
end_with braces _ _ = None

-- braces round two alternatives: in either order, the one with the name n and the one that stops
abbrev pub end_of : List ℕ → ExprV → Option EndV
end_of n (expr s e (group (expr s' e' (choice (branch false x (branch false y no_branch)))))) =
    option_or (end_with s (again_of n y) (word_of x)) (end_with s (again_of n x) (word_of y))
end_of n _ = None

abbrev pub last_item : ExprV → ExprsV → ExprV
last_item x no_item = x
last_item x (item y ys) = last_item y ys

-- all items but the last one
abbrev pub front_items : ExprV → ExprsV → ExprsV
front_items x no_item = no_item
front_items x (item y ys) = item x (front_items y ys)

abbrev pub tail_of_body : List ℕ → ExprV → Option TailV
tail_of_body n (expr s e (seq (item x (item y ys)))) =
    option_map (λ end. record { items = front_items x (item y ys); end = end }) (end_of n (last_item y ys))
tail_of_body n _ = None

-- the tail form of a rule, if it is in tail form
abbrev pub tail_of : Rule → Option TailV
tail_of rule = tail_of_body rule.name rule.body
