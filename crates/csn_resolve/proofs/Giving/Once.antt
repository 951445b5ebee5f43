-- What an expression gives is one list of nodes.
use Rattle.std.proofs.Common.{◌≡◌, ℕ, suc, ◌+◌, ◌≤◌, List, [], ◌∷◌, true, nat_eq, length, refl, sym, ◌∙◌, ap, subst, arith, codes, Some}
use Rattle.csn_desc.specs.declared.reading.Reading.{Reading}
use Rattle.csn_desc.specs.declared.reading.Reading.TheVariants.{Received, Sent}
use Rattle.csn_desc.specs.Nodes.{DescV}
use Rattle.csn_grammar.specs.declared.rules.Rule.{Rule}
use Rattle.csn_grammar.specs.ExprV.{ExprV, ExprsV}
use Rattle.csn_grammar.specs.RulesV.{RulesV}
use Rattle.csn_grammar.specs.Names.{is_built_in}
use Rattle.csn_grammar.specs.Forms.{WindowV}
use Rattle.csn_grammar.specs.TailForm.{TailV, tail_of}
use Rattle.csn_grammar.proofs.VoidFacts.{no_rule, same_window, same_rule, kept_once}
use Rattle.csn_resolve.specs.Seen.{Frame, Seen}
use Rattle.csn_resolve.specs.Resolved.{NameGives, IsResolved}
use Rattle.csn_resolve.specs.Gives.{Placed, Gives, ItemsGive, EachGives, RuleGives, gives_lits, gives_null, gives_bit}
use Rattle.csn_resolve.specs.Gives.{gives_octet, gives_field, gives_rest, gives_spare_bit, gives_spare_low}
use Rattle.csn_resolve.specs.Gives.{gives_padding, gives_seq, gives_choice, gives_only, gives_times, gives_many}
use Rattle.csn_resolve.specs.Gives.{gives_cut, gives_window, gives_labelled, gives_name, gives_group, gives_received}
use Rattle.csn_resolve.specs.Gives.{gives_sent, items_end, items_next, each_end, each_next, rule_plain, rule_tail}
use Rattle.csn_resolve.proofs.Basics.Bools.{no_both}
use Rattle.csn_resolve.proofs.Basics.Options.{no_none, same_some}

pub same_tail : (rule : Rule) {a b : TailV} → tail_of rule ≡ Some a → tail_of rule ≡ Some b → a ≡ b
same_tail rule p q = same_some p q

pub not_two : {xs : List ExprV} {x : ExprV} → 2 ≤ length xs → xs ≡ x ∷ [] → ⊥
not_two {xs} {x} two one = absurd (omega (arith, two, ap length one))

same_only : {x y : ExprV} → x ∷ [] ≡ y ∷ [] → x ≡ y
same_only p = cc

-- the names of spare parts differ in length
bit_low : codes "spare bit" ≡ codes "spare L" → ⊥
bit_low p = no_both {b = true} refl (ap (λ (z : List ℕ). nat_eq (length z) 9) p)

bit_padding : codes "spare bit" ≡ codes "spare padding" → ⊥
bit_padding p = no_both {b = true} refl (ap (λ (z : List ℕ). nat_eq (length z) 9) p)

low_padding : codes "spare L" ≡ codes "spare padding" → ⊥
low_padding p = no_both {b = true} refl (ap (λ (z : List ℕ). nat_eq (length z) 7) p)

two_readings : {q : Reading} → q ≡ Received → q ≡ Sent → ⊥
two_readings p q = cc

module _ (rules : RulesV) (r : Reading) where
  mutual
    pub gives_once :
        {x : ExprV} {at bt : ℕ} {seen other : Seen ℕ} {nodes others : List Placed}
        → at ≡ bt → seen ≡ other → Gives rules r x at seen nodes → Gives rules r x bt other others
        → nodes ≡ others
    gives_once e f (gives_lits p) (gives_lits q) = p ∙ sym q
    gives_once e f (gives_null p) (gives_null q) = p ∙ sym q
    gives_once e f (gives_bit p) (gives_bit q) = p ∙ sym q
    gives_once e f (gives_octet p) (gives_octet q) = p ∙ sym q
    gives_once e f (gives_field u c at_unit at_count p) (gives_field v d bt_unit bt_count q) = cc
    gives_once e f (gives_field u c at_unit at_count p) (gives_rest g q) = absurd (no_none at_count refl)
    gives_once e f (gives_field u c at_unit at_count p) (gives_times d none bt_count g q) = absurd (no_none at_unit none)
    gives_once e f (gives_field u c at_unit at_count p) (gives_many none g q) = absurd (no_none at_count refl)
    gives_once e f (gives_rest h p) (gives_field v d bt_unit bt_count q) = absurd (no_none bt_count refl)
    gives_once e f (gives_rest h p) (gives_rest g q) = p ∙ sym q
    gives_once e f (gives_rest h p) (gives_times d none bt_count g q) = absurd (no_none bt_count refl)
    gives_once e f (gives_rest h p) (gives_many none g q) = absurd (no_both h none)
    gives_once e f (gives_times c none at_count h p) (gives_field v d bt_unit bt_count q) = absurd (no_none bt_unit none)
    gives_once e f (gives_times c none at_count h p) (gives_rest g q) = absurd (no_none at_count refl)
    gives_once e f (gives_times c none at_count h p) (gives_times d none' bt_count g q) =
        let inner = gives_once (ap suc e) f h g in cc
    gives_once e f (gives_times c none at_count h p) (gives_many none' g q) = absurd (no_none at_count refl)
    gives_once e f (gives_many none h p) (gives_field v d bt_unit bt_count q) = absurd (no_none bt_count refl)
    gives_once e f (gives_many none h p) (gives_rest g q) = absurd (no_both g none)
    gives_once e f (gives_many none h p) (gives_times d none' bt_count g q) = absurd (no_none bt_count refl)
    gives_once e f (gives_many none h p) (gives_many none' g q) =
        let inner = gives_once (ap suc e) f h g in cc
    gives_once e f (gives_spare_bit h p) (gives_spare_bit g q) = p ∙ sym q
    gives_once e f (gives_spare_bit h p) (gives_spare_low g q) = absurd (bit_low (sym h ∙ g))
    gives_once e f (gives_spare_bit h p) (gives_padding g q) = absurd (bit_padding (sym h ∙ g))
    gives_once e f (gives_spare_bit {n = n} h p) (gives_name rule is g) = absurd (no_rule rules n rule (ap is_built_in h) is)
    gives_once e f (gives_spare_low h p) (gives_spare_bit g q) = absurd (bit_low (sym g ∙ h))
    gives_once e f (gives_spare_low h p) (gives_spare_low g q) = p ∙ sym q
    gives_once e f (gives_spare_low h p) (gives_padding g q) = absurd (low_padding (sym h ∙ g))
    gives_once e f (gives_spare_low {n = n} h p) (gives_name rule is g) = absurd (no_rule rules n rule (ap is_built_in h) is)
    gives_once e f (gives_padding h p) (gives_spare_bit g q) = absurd (bit_padding (sym g ∙ h))
    gives_once e f (gives_padding h p) (gives_spare_low g q) = absurd (low_padding (sym g ∙ h))
    gives_once e f (gives_padding h p) (gives_padding g q) = p ∙ sym q
    gives_once e f (gives_padding {n = n} h p) (gives_name rule is g) = absurd (no_rule rules n rule (ap is_built_in h) is)
    gives_once e f (gives_name {n = n} rule is h) (gives_spare_bit g q) = absurd (no_rule rules n rule (ap is_built_in g) is)
    gives_once e f (gives_name {n = n} rule is h) (gives_spare_low g q) = absurd (no_rule rules n rule (ap is_built_in g) is)
    gives_once e f (gives_name {n = n} rule is h) (gives_padding g q) = absurd (no_rule rules n rule (ap is_built_in g) is)
    gives_once {bt = bt} {other = other} {others = others} e f (gives_name {n = n} rule is h) (gives_name rule' is' g) =
        let Q : Rule → Type 0 = λ z. RuleGives rules r z bt other others in
        rule_once e f h (subst Q (same_rule rules n is' is) g)
    gives_once e f (gives_seq h p) (gives_seq g q) = let same = items_once (ap suc e) refl f h g in cc
    gives_once e f (gives_cut h p) (gives_cut g q) = let same = items_once (ap suc e) refl f h g in cc
    gives_once {bt = bt} {other = other} e f (gives_choice xs kept two h p) (gives_choice {inner = inner} {parts = parts} ys kept' two' g q) =
        let Q : List ExprV → Type 0 = λ zs. EachGives rules r zs (suc bt) other parts inner in
        let same = each_once (ap suc e) f h (subst Q (kept_once rules r kept' kept) g) in cc
    gives_once e f (gives_choice xs kept two h p) (gives_only kept' g) = absurd (not_two two (kept_once rules r kept kept'))
    gives_once e f (gives_only kept h) (gives_choice ys kept' two g q) = absurd (not_two two (kept_once rules r kept' kept))
    gives_once {bt = bt} {other = other} {others = others} e f (gives_only {x = x} kept h) (gives_only {x = y} kept' g) =
        let Q : ExprV → Type 0 = λ z. Gives rules r z bt other others in
        let same : y ≡ x = same_only (kept_once rules r kept' kept) in
        gives_once e f h (subst Q same g)
    gives_once {bt = bt} {other = other} e f (gives_window w c is at_count h p) (gives_window {inner = inner} v d is' bt_count g q) =
        let Q : WindowV → Type 0 = λ z. Gives rules r z.part (suc bt) other inner in
        let same : v ≡ w = same_window _ _ is' is in
        let inner_same = gives_once (ap suc e) f h (subst Q same g) in cc
    gives_once e f (gives_labelled h p) (gives_labelled g q) = let inner = gives_once (ap suc e) f h g in cc
    gives_once e f (gives_group h) (gives_group g) = gives_once e f h g
    gives_once e f (gives_received p h) (gives_received q g) = gives_once e f h g
    gives_once e f (gives_received p h) (gives_sent q g) = absurd (two_readings p q)
    gives_once e f (gives_sent p h) (gives_received q g) = absurd (two_readings q p)
    gives_once e f (gives_sent p h) (gives_sent q g) = gives_once e f h g

    pub items_once :
        {xs : ExprsV} {at bt : ℕ} {frame gframe : Frame ℕ} {seen other : Seen ℕ}
        {parts qarts : List ℕ} {nodes others : List Placed}
        → at ≡ bt → frame ≡ gframe → seen ≡ other → ItemsGive rules r xs at frame seen parts nodes
        → ItemsGive rules r xs bt gframe other qarts others → (parts ≡ qarts) × (nodes ≡ others)
    items_once e m f (items_end p q) (items_end p' q') = (cc, cc)
    items_once e m f (items_next first rest h others p q) (items_next gfirst grest g gothers p' q') =
        let same : first ≡ gfirst = gives_once e (cc) h g in
        let later = items_once (cc) (cc) f others gothers in
        (cc, cc)

    each_once :
        {xs : List ExprV} {at bt : ℕ} {seen other : Seen ℕ} {parts qarts : List ℕ} {nodes others : List Placed}
        → at ≡ bt → seen ≡ other → EachGives rules r xs at seen parts nodes
        → EachGives rules r xs bt other qarts others → (parts ≡ qarts) × (nodes ≡ others)
    each_once e f (each_end p q) (each_end p' q') = (cc, cc)
    each_once e f (each_next first rest h others p q) (each_next gfirst grest g gothers p' q') =
        let same : first ≡ gfirst = gives_once e f h g in
        let later = each_once (cc) f others gothers in
        (cc, cc)

    pub rule_once :
        {rule : Rule} {at bt : ℕ} {seen other : Seen ℕ} {nodes others : List Placed}
        → at ≡ bt → seen ≡ other → RuleGives rules r rule at seen nodes → RuleGives rules r rule bt other others
        → nodes ≡ others
    rule_once e f (rule_plain is h) (rule_plain is' g) = gives_once e f h g
    rule_once e f (rule_plain is h) (rule_tail tail many stop parts turn_parts items turn is' i m t s p) = absurd (no_none is' is)
    rule_once e f (rule_tail tail many stop parts turn_parts items turn is i m t s p) (rule_plain is' g) = absurd (no_none is is')
    rule_once {rule = rule} {bt = bt} {other = other} e f (rule_tail tail many stop parts turn_parts items turn is i m t s p)
        (rule_tail tail' many' stop' parts' turn_parts' items' turn' is' i' m' t' s' p') =
        let same : tail' ≡ tail = same_tail rule is' is in
        let Q : TailV → Type 0 = λ z. ItemsGive rules r z.items (suc bt) [] other parts' items' in
        let R : TailV → Type 0 = λ z. ItemsGive rules r z.items (many' + 3) [] other turn_parts' turn' in
        let first = items_once (ap suc e) refl f i (subst Q same i') in
        let many_same : many ≡ many' = cc in
        let second = items_once (ap (λ z. z + 3) many_same) refl f t (subst R same t') in
        cc

  pub name_once :
      {n : List ℕ} {nodes others : List Placed}
      → NameGives rules n r nodes → NameGives rules n r others → nodes ≡ others
  name_once {n} {nodes} {others} h g =
      let Q : Rule → Type 0 = λ z. RuleGives rules r z 0 [] others in
      rule_once refl refl h.gives (subst Q (same_rule rules n g.found h.found) g.gives)

  pub resolved_once :
      {n : List ℕ} {d other : DescV}
      → IsResolved rules n r d → IsResolved rules n r other → d ≡ other
  resolved_once h g = let same = name_once h.given g.given in let is = h.is in let is' = g.is in cc
