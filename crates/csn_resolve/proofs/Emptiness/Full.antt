-- What is empty of strings gives no nodes.
use Rattle.std.proofs.Common.{◌≡◌, ℕ, List, [], ◌∷◌, length, ap, arith}
use Rattle.csn_desc.specs.declared.reading.Reading.{Reading}
use Rattle.csn_grammar.specs.declared.rules.Rule.{Rule}
use Rattle.csn_grammar.specs.ExprV.{ExprV, ExprsV}
use Rattle.csn_grammar.specs.RulesV.{RulesV}
use Rattle.csn_grammar.specs.Void.{Void, SomeVoid, void_group, void_labelled, void_seq, void_choice, void_here, void_later}
use Rattle.csn_grammar.proofs.VoidFacts.{none_kept, tail_void, spare_bit_full, spare_low_full, padding_full, part_void, body_void, left_void, right_void}
use Rattle.csn_resolve.specs.Seen.{Frame, Seen}
use Rattle.csn_resolve.specs.Gives.{Placed, Gives, ItemsGive, RuleGives, gives_lits, gives_null, gives_bit}
use Rattle.csn_resolve.specs.Gives.{gives_octet, gives_field, gives_rest, gives_spare_bit, gives_spare_low}
use Rattle.csn_resolve.specs.Gives.{gives_padding, gives_seq, gives_choice, gives_only, gives_times, gives_many}
use Rattle.csn_resolve.specs.Gives.{gives_cut, gives_window, gives_labelled, gives_name, gives_group, gives_received}
use Rattle.csn_resolve.specs.Gives.{gives_sent, items_end, items_next, rule_plain, rule_tail}

module _ (rules : RulesV) (r : Reading) where
  mutual
    pub gives_full :
        {x : ExprV} {at : ℕ} {seen : Seen ℕ} {nodes : List Placed}
        → Gives rules r x at seen nodes → Void rules r x → ⊥
    gives_full (gives_lits p) v = elim v [ ]
    gives_full (gives_null p) v = elim v [ ]
    gives_full (gives_bit p) v = elim v [ ]
    gives_full (gives_octet p) v = elim v [ ]
    gives_full (gives_field u c at_unit at_count p) v = elim v [ ]
    gives_full (gives_rest h p) v = elim v [ ]
    gives_full (gives_spare_bit {n = n} is p) v = spare_bit_full rules r n is v
    gives_full (gives_spare_low {n = n} is p) v = spare_low_full rules r n is v
    gives_full (gives_padding {n = n} is p) v = padding_full rules r n is v
    gives_full (gives_seq h p) (void_seq v) = items_full h v
    gives_full (gives_choice xs kept two h p) (void_choice all) =
        let none : xs ≡ [] = none_kept rules r kept all in absurd (omega (arith, two, ap length none))
    gives_full (gives_only {x = x} kept h) (void_choice all) =
        let none : x ∷ [] ≡ [] = none_kept rules r kept all in cc
    gives_full (gives_times c none at_count h p) v = elim v [ ]
    gives_full (gives_many none h p) v = elim v [ ]
    gives_full (gives_cut h p) v = elim v [ ]
    gives_full (gives_window w c is at_count h p) v = gives_full h (part_void rules r is v)
    gives_full (gives_labelled h p) (void_labelled v) = gives_full h v
    gives_full (gives_name rule is h) v = rule_full h (body_void rules r is v)
    gives_full (gives_group h) (void_group v) = gives_full h v
    gives_full (gives_received p h) v = gives_full h (left_void rules r p v)
    gives_full (gives_sent p h) v = gives_full h (right_void rules r p v)

    items_full :
        {xs : ExprsV} {at : ℕ} {frame : Frame ℕ} {seen : Seen ℕ} {parts : List ℕ} {nodes : List Placed}
        → ItemsGive rules r xs at frame seen parts nodes → SomeVoid rules r xs → ⊥
    items_full (items_end p q) v = elim v [ ]
    items_full (items_next first rest h others p q) (void_here v) = gives_full h v
    items_full (items_next first rest h others p q) (void_later v) = items_full others v

    pub rule_full :
        {rule : Rule} {at : ℕ} {seen : Seen ℕ} {nodes : List Placed}
        → RuleGives rules r rule at seen nodes → Void rules r rule.body → ⊥
    rule_full (rule_plain is h) v = gives_full h v
    rule_full {rule = rule} (rule_tail tail many stop parts turn_parts items turn is i m t s p) v =
        items_full i (tail_void rules r rule.name rule.body tail is v)
