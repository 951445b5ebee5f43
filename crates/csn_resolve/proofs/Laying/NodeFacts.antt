-- The first of the nodes that an expression gives: there is one, and that of a labelled item is labelled.
use Rattle.std.proofs.Common.{◌≡◌, ℕ, ◌<◌, ◌≤◌, true, List, ◌∷◌, length, refl, sym, ◌∙◌, ap, subst, arith, Some}
use Rattle.csn_desc.specs.declared.node.Node.{Node}
use Rattle.csn_desc.specs.declared.reading.Reading.{Reading}
use Rattle.csn_desc.specs.declared.reading.Reading.TheVariants.{Received, Sent}
use Rattle.csn_desc.specs.Values.{is_labelled, is_named}
use Rattle.csn_grammar.specs.declared.rules.Rule.{Rule}
use Rattle.csn_grammar.specs.ExprV.{ExprV, expr, ExprsV, sends}
use Rattle.csn_grammar.specs.RulesV.{RulesV}
use Rattle.csn_grammar.specs.Environment.{label_of}
use Rattle.csn_resolve.specs.Seen.{Frame, Seen}
use Rattle.csn_resolve.specs.Gives.{Placed, Gives, ItemsGive, RuleGives, gives_lits, gives_null, gives_bit}
use Rattle.csn_resolve.specs.Gives.{gives_octet, gives_field, gives_rest, gives_spare_bit, gives_spare_low}
use Rattle.csn_resolve.specs.Gives.{gives_padding, gives_seq, gives_choice, gives_only, gives_times, gives_many}
use Rattle.csn_resolve.specs.Gives.{gives_cut, gives_window, gives_labelled, gives_name, gives_group, gives_received}
use Rattle.csn_resolve.specs.Gives.{gives_sent, items_end, items_next, rule_plain, rule_tail}
use Rattle.csn_resolve.proofs.Basics.Options.{no_none}
use Rattle.csn_resolve.proofs.Laying.Holding.{Holds, holds_along}
use Rattle.csn_resolve.proofs.Meaning.SameTails.{AllFrom}

module _ (rules : RulesV) (r : Reading) where
  begun_at : {p : Placed} {nodes inner : List Placed} → nodes ≡ p ∷ inner → 0 < length nodes
  begun_at q = omega (arith, ap length q)

  mutual
    pub gives_some : {x : ExprV} {at : ℕ} {seen : Seen ℕ} {nodes : List Placed} → Gives rules r x at seen nodes → 0 < length nodes
    gives_some (gives_lits p) = begun_at p
    gives_some (gives_null p) = begun_at p
    gives_some (gives_bit p) = begun_at p
    gives_some (gives_octet p) = begun_at p
    gives_some (gives_field unit count is counted p) = begun_at p
    gives_some (gives_rest is p) = begun_at p
    gives_some (gives_spare_bit is p) = begun_at p
    gives_some (gives_spare_low is p) = begun_at p
    gives_some (gives_padding is p) = begun_at p
    gives_some (gives_seq g p) = begun_at p
    gives_some (gives_choice xs kept two g p) = begun_at p
    gives_some (gives_only kept g) = gives_some g
    gives_some (gives_times count is counted g p) = begun_at p
    gives_some (gives_many is g p) = begun_at p
    gives_some (gives_cut g p) = begun_at p
    gives_some (gives_window w count is counted g p) = begun_at p
    gives_some (gives_labelled g p) = begun_at p
    gives_some (gives_name rule is g) = rule_some g
    gives_some (gives_group g) = gives_some g
    gives_some (gives_received is g) = gives_some g
    gives_some (gives_sent is g) = gives_some g

    rule_some : {rule : Rule} {at : ℕ} {seen : Seen ℕ} {nodes : List Placed} → RuleGives rules r rule at seen nodes → 0 < length nodes
    rule_some (rule_plain is g) = gives_some g
    rule_some (rule_tail tail many stop parts turn_parts items turn is i m t s p) = begun_at p

  -- the parts of a sequence stand behind it
  pub items_behind :
      {xs : ExprsV} {at : ℕ} {frame : Frame ℕ} {seen : Seen ℕ} {parts : List ℕ} {nodes : List Placed} (low : ℕ)
      → low ≤ at → ItemsGive rules r xs at frame seen parts nodes → AllFrom low parts
  items_behind low le (items_end p q) = let P : List ℕ → Type 0 = λ z. AllFrom low z in subst P (sym p) tt
  items_behind low le (items_next first rest g others p q) =
      let P : List ℕ → Type 0 = λ z. AllFrom low z in
      subst P (sym p) (le, items_behind low (omega (arith, le)) others)

  -- ---- labels

  label_received : (s e : ℕ) (x y : ExprV) → r ≡ Received → label_of r (expr s e (sends x y)) ≡ label_of r x
  label_received s e x y is =
      let P : Reading → Type 0 = λ z. label_of z (expr s e (sends x y)) ≡ label_of z x in subst P (sym is) refl

  label_sent : (s e : ℕ) (x y : ExprV) → r ≡ Sent → label_of r (expr s e (sends x y)) ≡ label_of r y
  label_sent s e x y is =
      let P : Reading → Type 0 = λ z. label_of z (expr s e (sends x y)) ≡ label_of z y in subst P (sym is) refl

  pub label_named :
      (all : List Node) {x : ExprV} {at : ℕ} {seen : Seen ℕ} {nodes : List Placed}
      → Gives rules r x at seen nodes → Holds all at nodes → (label : List ℕ) → label_of r x ≡ Some label → is_named all at ≡ true
  label_named all (gives_lits p) h label is = absurd (no_none is refl)
  label_named all (gives_null p) h label is = absurd (no_none is refl)
  label_named all (gives_bit p) h label is = absurd (no_none is refl)
  label_named all (gives_octet p) h label is = absurd (no_none is refl)
  label_named all (gives_field unit count is' counted p) h label is = absurd (no_none is refl)
  label_named all (gives_rest is' p) h label is = absurd (no_none is refl)
  label_named all (gives_spare_bit is' p) h label is = absurd (no_none is refl)
  label_named all (gives_spare_low is' p) h label is = absurd (no_none is refl)
  label_named all (gives_padding is' p) h label is = absurd (no_none is refl)
  label_named all (gives_seq g p) h label is = absurd (no_none is refl)
  label_named all (gives_choice xs kept two g p) h label is = absurd (no_none is refl)
  label_named all (gives_only kept g) h label is = absurd (no_none is refl)
  label_named all (gives_times count is' counted g p) h label is = absurd (no_none is refl)
  label_named all (gives_many is' g p) h label is = absurd (no_none is refl)
  label_named all (gives_cut g p) h label is = absurd (no_none is refl)
  label_named all (gives_window w count is' counted g p) h label is = absurd (no_none is refl)
  label_named all {at = at} (gives_labelled g p) h label is = let here = holds_along all at p h in ap is_labelled here.0
  label_named all (gives_name rule is' g) h label is = absurd (no_none is refl)
  label_named all (gives_group g) h label is = absurd (no_none is refl)
  label_named all (gives_received {s = s} {e = e} {x = x} {y = y} is' g) h label is =
      label_named all g h label (sym (label_received s e x y is') ∙ is)
  label_named all (gives_sent {s = s} {e = e} {x = x} {y = y} is' g) h label is =
      label_named all g h label (sym (label_sent s e x y is') ∙ is)
