-- A rule in tail form that is shaped as nodes need it has items that are, one at least, and no empty word.
use Rattle.std.proofs.Common.{◌≡◌, ℕ, ◌≤◌, Bool, true, false, List, length, Option, Some, None, subst, arith}
use Rattle.std.specs.Prelude.{if◌then◌else◌}
use Rattle.std.specs.Option.{option_map, option_or}
use Rattle.csn_grammar.specs.declared.rules.Rule.{Rule}
use Rattle.csn_grammar.specs.ExprV.{ExprV, expr, lits, name, group, seq, choice, ExprsV, no_item, item, no_branch, branch, item_list}
use Rattle.csn_grammar.specs.RulesV.{RulesV}
use Rattle.csn_grammar.specs.Names.{same_name, rule_of}
use Rattle.csn_grammar.specs.TailForm.{WordV, EndV, TailV, word_of, again_of, end_with, end_of, last_item, front_items, tail_of_body, tail_of}
use Rattle.csn_grammar.specs.Shaped.{IsShaped, ItemsShaped, AreShaped}
use Rattle.csn_grammar.proofs.VoidFacts.{rule_has}

-- a word, where there is one, is not empty
abbrev WordShaped : Option WordV → Type 0
WordShaped None = Unit {0}
WordShaped (Some w) = 1 ≤ length w.run

abbrev EndShaped : Option EndV → Type 0
EndShaped None = Unit {0}
EndShaped (Some end) = (1 ≤ length end.again.run) × (1 ≤ length end.stop.run)

pub record TailShaped (tail : TailV) : Type 0 where
  pub items : ItemsShaped tail.items
  pub some : 1 ≤ length (item_list tail.items)
  pub again : 1 ≤ length tail.end.again.run
  pub stop : 1 ≤ length tail.end.stop.run

word_shaped : (x : ExprV) → IsShaped x → WordShaped (word_of x)
word_shaped (expr s e (lits run)) h = h
word_shaped (expr s e f) h = tt

if_shaped : (b : Bool) (o : Option WordV) → WordShaped o → WordShaped (if b then o else None)
if_shaped true o h = h
if_shaped false o h = tt

again_shaped : (n : List ℕ) (x : ExprV) → IsShaped x → WordShaped (again_of n x)
again_shaped n (expr s e (seq (item x (item (expr s' e' (name m)) no_item)))) h =
    if_shaped (same_name m n) (word_of x) (word_shaped x h.1.0)
again_shaped n x h = tt

with_shaped :
    (s : ℕ) (again stop : Option WordV) → WordShaped again → WordShaped stop → EndShaped (end_with s again stop)
with_shaped s (Some again) (Some stop) h g = (h, g)
with_shaped s (Some again) None h g = tt
with_shaped s None stop h g = tt

or_shaped : (a b : Option EndV) → EndShaped a → EndShaped b → EndShaped (option_or a b)
or_shaped (Some a) b h g = h
or_shaped None b h g = g

end_shaped : (n : List ℕ) (x : ExprV) → IsShaped x → EndShaped (end_of n x)
end_shaped n (expr s e (group (expr s' e' (choice (branch false x (branch false y no_branch)))))) h =
    or_shaped (end_with s (again_of n y) (word_of x)) (end_with s (again_of n x) (word_of y))
    (with_shaped s (again_of n y) (word_of x) (again_shaped n y h.1.1.0) (word_shaped x h.1.0))
    (with_shaped s (again_of n x) (word_of y) (again_shaped n x h.1.0) (word_shaped y h.1.1.0))
end_shaped n x h = tt

last_shaped : (x : ExprV) (xs : ExprsV) → IsShaped x → ItemsShaped xs → IsShaped (last_item x xs)
last_shaped x no_item h more = h
last_shaped x (item y ys) h more = last_shaped y ys more.0 more.1

front_shaped : (x : ExprV) (xs : ExprsV) → IsShaped x → ItemsShaped xs → ItemsShaped (front_items x xs)
front_shaped x no_item h more = tt
front_shaped x (item y ys) h more = (h, front_shaped y ys more.0 more.1)

body_shaped : (n : List ℕ) (x : ExprV) (tail : TailV) → IsShaped x → tail_of_body n x ≡ Some tail → TailShaped tail
body_shaped n (expr s e (seq (item x (item y ys)))) tail h p =
    found (end_of n (last_item y ys)) (end_shaped n (last_item y ys) (last_shaped y ys h.1.1.0 h.1.1.1)) p
  where
    found :
        (o : Option EndV) → EndShaped o
        → option_map (λ end. record { items = front_items x (item y ys); end = end }) o ≡ Some tail → TailShaped tail
    found None g is = absurd (cc)
    found (Some end) g is =
        let tail_is : record { items = front_items x (item y ys); end = end } ≡ tail = cc in
        let P : TailV → Type 0 = λ z. TailShaped z in
        subst P tail_is (record {
          items = front_shaped x (item y ys) h.1.0 h.1.1;
          some = omega arith;
          again = g.0;
          stop = g.1;
        })
body_shaped n x tail h p = absurd (cc)

pub tail_shaped : (rule : Rule) (tail : TailV) → IsShaped rule.body → tail_of rule ≡ Some tail → TailShaped tail
tail_shaped rule tail h p = body_shaped rule.name rule.body tail h p

-- the rule of a name is one of the rules
pub rule_shaped :
    (rules : RulesV) (n : List ℕ) (rule : Rule)
    → AreShaped rules → rule_of rules n ≡ Some rule → IsShaped rule.body
rule_shaped = rule_has (λ rule. IsShaped rule.body) AreShaped (λ first rest h. h)

pub again_some : (rule : Rule) (tail : TailV) → tail_of rule ≡ Some tail → IsShaped rule.body → 1 ≤ length tail.end.again.run
again_some rule tail p h = (tail_shaped rule tail h p).again
