-- Nodes that are added one after another are those that an expression gives, form by form.
use Rattle.std.proofs.Common.{◌≡◌, ℕ, suc, ◌+◌, ◌≤◌, ◌<◌, true, false, List, [], ◌∷◌, ◌++◌, length, codes, refl, sym}
use Rattle.std.proofs.Common.{◌∙◌, ap, subst, arith, append_assoc, length-append, Option, Some, None, Result, Ok, Err}
use Rattle.std.specs.Prelude.{OnOk}
use Rattle.csn_desc.specs.declared.reading.Reading.{Reading}
use Rattle.csn_desc.specs.declared.reading.Reading.TheVariants.{Received, Sent}
use Rattle.csn_desc.specs.declared.symbol.Symbol.{Symbol}
use Rattle.csn_desc.specs.declared.symbol.Symbol.TheVariants as symbol
use Rattle.csn_desc.specs.declared.node.Count.{Count}
use Rattle.csn_desc.specs.declared.node.Count.TheVariants.{Fixed}
use Rattle.csn_desc.specs.declared.node.Node.{Node}
use Rattle.csn_desc.specs.declared.node.Node.TheVariants.{Lits, Spare, Pad, Null, Field, Rest, Seq, Choice, Times, Many, Trunc, Window, Named}
use Rattle.csn_grammar.specs.declared.exponent.Exponent.{Exponent}
use Rattle.csn_grammar.specs.declared.exponent.Exponent.TheVariants.{Any}
use Rattle.csn_grammar.specs.declared.rules.Rule.{Rule}
use Rattle.csn_grammar.specs.ExprV.{ExprV, expr, FormV, lits, null, bit, octet, name, labelled, group, seq, choice}
use Rattle.csn_grammar.specs.ExprV.{power, cut, both, sends, ExprsV, BranchV, exprs_of, branches_of}
use Rattle.csn_grammar.specs.RulesV.{RulesV}
use Rattle.csn_grammar.specs.Names.{is_built_in, rule_of, name_of}
use Rattle.csn_grammar.specs.Forms.{unit_of, is_bit, WindowV, window_of}
use Rattle.csn_grammar.specs.TailForm.{tail_of}
use Rattle.csn_grammar.specs.Void.{Kept}
use Rattle.csn_grammar.proofs.VoidFacts.{no_rule, same_rule, same_window}
use Rattle.csn_grammar.specs.declared.built_in.BuiltIn.TheVariants.{NoString}
use Rattle.csn_resolve.specs.Seen.{Frame, Seen}
use Rattle.csn_resolve.specs.Gives.{Placed, placed, count_at, Gives, ItemsGive, EachGives, RuleGives, gives_lits}
use Rattle.csn_resolve.specs.Gives.{gives_null, gives_bit, gives_octet, gives_field, gives_rest, gives_spare_bit}
use Rattle.csn_resolve.specs.Gives.{gives_spare_low, gives_padding, gives_seq, gives_choice, gives_only, gives_times}
use Rattle.csn_resolve.specs.Gives.{gives_many, gives_cut, gives_window, gives_labelled, gives_name, gives_group}
use Rattle.csn_resolve.specs.Gives.{gives_received, gives_sent, rule_plain, rule_tail}
use Rattle.csn_resolve.specs.Made.{only, GivesFew, ItemsGiveFew, KeptGiveFew, RuleGivesFew, Adds, AddsItems, AddsKept, AddsRule}
use Rattle.csn_resolve.proofs.Basics.Bools.{no_both}
use Rattle.csn_resolve.proofs.Basics.Options.{no_none, same_some}

pub on-ok : {A B E : Type 0} (result : Result (Unit {0}) E) → (A → B) → OnOk result A → OnOk result B
on-ok (Ok x) f h = f h
on-ok (Err e) f h = h

-- ---- lists of nodes

pub one-more : (before middle : List Placed) (p : Placed) → middle ≡ before ++ p ∷ [] → length middle ≡ suc (length before)
one-more before middle p is =
    let long : length middle ≡ length before + 1 = ap length is ∙ length-append before (p ∷ []) in omega (arith, long)

-- a node, and then those inside it
behind-one :
    (before middle after inner : List Placed) (p : Placed) → middle ≡ before ++ p ∷ [] → after ≡ middle ++ inner
    → after ≡ before ++ p ∷ inner
behind-one before middle after inner p is more =
    more ∙ (ap (λ l. l ++ inner) is ∙ append_assoc before (p ∷ []) inner)

as-nodes : (before after nodes others : List Placed) → after ≡ before ++ others → nodes ≡ others → after ≡ before ++ nodes
as-nodes before after nodes others p q = p ∙ ap (λ l. before ++ l) (sym q)

-- the same node, where its number is told otherwise
as-node : {n m : Node} (place : ℕ) → n ≡ m → placed n place ≡ placed m place
as-node place p = ap (λ z. placed z place) p

module _ (rules : RulesV) (r : Reading) where
  pub adds-as : {x y : ExprV} {seen : Seen ℕ} (before after : List Placed) → x ≡ y → Adds rules r y seen before after → Adds rules r x seen before after
  adds-as {seen = seen} before after p h =
      let P : ExprV → Type 0 = λ z. Adds rules r z seen before after in subst P (sym p) h

  pub few-as : {x y : ExprV} {at : ℕ} {seen : Seen ℕ} → x ≡ y → GivesFew rules r x at seen → GivesFew rules r y at seen
  few-as {at = at} {seen = seen} p h = let P : ExprV → Type 0 = λ z. GivesFew rules r z at seen in subst P p h

  gives-at : {x : ExprV} {at bt : ℕ} {seen : Seen ℕ} {nodes : List Placed} → at ≡ bt → Gives rules r x at seen nodes → Gives rules r x bt seen nodes
  gives-at {x} {seen = seen} {nodes = nodes} p h = let P : ℕ → Type 0 = λ z. Gives rules r x z seen nodes in subst P p h

  pub items-at :
      {xs : ExprsV} {at bt : ℕ} {frame : Frame ℕ} {seen : Seen ℕ} {parts : List ℕ} {nodes : List Placed}
      → at ≡ bt → ItemsGive rules r xs at frame seen parts nodes → ItemsGive rules r xs bt frame seen parts nodes
  items-at {xs} {frame = frame} {seen = seen} {parts = parts} {nodes = nodes} p h =
      let P : ℕ → Type 0 = λ z. ItemsGive rules r xs z frame seen parts nodes in subst P p h

  each-at :
      {xs : List ExprV} {at bt : ℕ} {seen : Seen ℕ} {parts : List ℕ} {nodes : List Placed}
      → at ≡ bt → EachGives rules r xs at seen parts nodes → EachGives rules r xs bt seen parts nodes
  each-at {xs} {seen = seen} {parts = parts} {nodes = nodes} p h =
      let P : ℕ → Type 0 = λ z. EachGives rules r xs z seen parts nodes in subst P p h

  -- ---- one node at least

  one-node : {nodes inner : List Placed} {p : Placed} → nodes ≡ p ∷ inner → 1 ≤ length nodes
  one-node p = omega (arith, ap length p)

  mutual
    pub some-given : {x : ExprV} {at : ℕ} {seen : Seen ℕ} {nodes : List Placed} → Gives rules r x at seen nodes → 1 ≤ length nodes
    some-given (gives_lits p) = one-node p
    some-given (gives_null p) = one-node p
    some-given (gives_bit p) = one-node p
    some-given (gives_octet p) = one-node p
    some-given (gives_field unit count u c p) = one-node p
    some-given (gives_rest is p) = one-node p
    some-given (gives_spare_bit is p) = one-node p
    some-given (gives_spare_low is p) = one-node p
    some-given (gives_padding is p) = one-node p
    some-given (gives_seq h p) = one-node p
    some-given (gives_choice xs kept two h p) = one-node p
    some-given (gives_only kept h) = some-given h
    some-given (gives_times count none c h p) = one-node p
    some-given (gives_many not h p) = one-node p
    some-given (gives_cut h p) = one-node p
    some-given (gives_window w count is c h p) = one-node p
    some-given (gives_labelled h p) = one-node p
    some-given (gives_name rule is h) = some-of-rule h
    some-given (gives_group h) = some-given h
    some-given (gives_received is h) = some-given h
    some-given (gives_sent is h) = some-given h

    some-of-rule : {rule : Rule} {at : ℕ} {seen : Seen ℕ} {nodes : List Placed} → RuleGives rules r rule at seen nodes → 1 ≤ length nodes
    some-of-rule (rule_plain none h) = some-given h
    some-of-rule (rule_tail tail many stop parts turn_parts items turn is i m t s p) = one-node p

  pub room : {x : ExprV} {at : ℕ} {seen : Seen ℕ} → GivesFew rules r x at seen → at < 16384
  room h = let some = some-given h.1 in let few = h.2 in omega (arith, some, few)

  -- ---- forms of one node

  pub adds-lits :
      {s e : ℕ} {run : List Symbol} {seen : Seen ℕ} (before after : List Placed)
      → after ≡ before ++ placed (Lits run) s ∷ [] → Adds rules r (expr s e (lits run)) seen before after
  adds-lits before after is nodes (gives_lits p) = as-nodes before after nodes _ is p

  pub adds-null :
      {s e : ℕ} {seen : Seen ℕ} (before after : List Placed)
      → after ≡ before ++ placed Null s ∷ [] → Adds rules r (expr s e null) seen before after
  adds-null before after is nodes (gives_null p) = as-nodes before after nodes _ is p

  pub adds-bit :
      {s e : ℕ} {seen : Seen ℕ} (before after : List Placed)
      → after ≡ before ++ placed (Field 1 (Fixed 1)) s ∷ [] → Adds rules r (expr s e bit) seen before after
  adds-bit before after is nodes (gives_bit p) = as-nodes before after nodes _ is p

  pub adds-octet :
      {s e : ℕ} {seen : Seen ℕ} (before after : List Placed)
      → after ≡ before ++ placed (Field 8 (Fixed 1)) s ∷ [] → Adds rules r (expr s e octet) seen before after
  adds-octet before after is nodes (gives_octet p) = as-nodes before after nodes _ is p

  -- ---- names, braces and `=`

  pub adds-group :
      {s e : ℕ} {x : ExprV} {seen : Seen ℕ} (before after : List Placed)
      → Adds rules r x seen before after → Adds rules r (expr s e (group x)) seen before after
  adds-group before after h nodes (gives_group g) = h nodes g

  pub few-group : {s e : ℕ} {x : ExprV} {at : ℕ} {seen : Seen ℕ} → GivesFew rules r (expr s e (group x)) at seen → GivesFew rules r x at seen
  few-group h = (h.0, inner h.1, h.2)
    where
      inner : {s e : ℕ} {x : ExprV} {at : ℕ} {seen : Seen ℕ} {nodes : List Placed}
          → Gives rules r (expr s e (group x)) at seen nodes → Gives rules r x at seen nodes
      inner (gives_group g) = g

  two-readings : {q : Reading} → q ≡ Received → q ≡ Sent → ⊥
  two-readings p q = cc

  pub adds-received :
      {s e : ℕ} {x y : ExprV} {seen : Seen ℕ} (before after : List Placed) → r ≡ Received
      → Adds rules r x seen before after → Adds rules r (expr s e (sends x y)) seen before after
  adds-received before after is h nodes (gives_received p g) = h nodes g
  adds-received before after is h nodes (gives_sent p g) = absurd (two-readings is p)

  pub adds-sent :
      {s e : ℕ} {x y : ExprV} {seen : Seen ℕ} (before after : List Placed) → r ≡ Sent
      → Adds rules r y seen before after → Adds rules r (expr s e (sends x y)) seen before after
  adds-sent before after is h nodes (gives_received p g) = absurd (two-readings p is)
  adds-sent before after is h nodes (gives_sent p g) = h nodes g

  left-gives :
      {s e : ℕ} {x y : ExprV} {at : ℕ} {seen : Seen ℕ} {nodes : List Placed} → r ≡ Received
      → Gives rules r (expr s e (sends x y)) at seen nodes → Gives rules r x at seen nodes
  left-gives is (gives_received p g) = g
  left-gives is (gives_sent p g) = absurd (two-readings is p)

  right-gives :
      {s e : ℕ} {x y : ExprV} {at : ℕ} {seen : Seen ℕ} {nodes : List Placed} → r ≡ Sent
      → Gives rules r (expr s e (sends x y)) at seen nodes → Gives rules r y at seen nodes
  right-gives is (gives_received p g) = absurd (two-readings p is)
  right-gives is (gives_sent p g) = g

  pub few-received :
      {s e : ℕ} {x y : ExprV} {at : ℕ} {seen : Seen ℕ} → r ≡ Received → GivesFew rules r (expr s e (sends x y)) at seen → GivesFew rules r x at seen
  few-received is h = (h.0, left-gives is h.1, h.2)

  pub few-sent :
      {s e : ℕ} {x y : ExprV} {at : ℕ} {seen : Seen ℕ} → r ≡ Sent → GivesFew rules r (expr s e (sends x y)) at seen → GivesFew rules r y at seen
  few-sent is h = (h.0, right-gives is h.1, h.2)

  pub adds-name :
      {s e : ℕ} {n : List ℕ} {rule : Rule} {seen : Seen ℕ} (before after : List Placed) → rule_of rules n ≡ Some rule
      → AddsRule rules r rule seen before after → Adds rules r (expr s e (name n)) seen before after
  adds-name {n = n} {rule = rule} before after is h nodes (gives_spare_bit p q) = absurd (no_rule rules n rule (ap is_built_in p) is)
  adds-name {n = n} {rule = rule} before after is h nodes (gives_spare_low p q) = absurd (no_rule rules n rule (ap is_built_in p) is)
  adds-name {n = n} {rule = rule} before after is h nodes (gives_padding p q) = absurd (no_rule rules n rule (ap is_built_in p) is)
  adds-name {n = n} {seen = seen} before after is h nodes (gives_name other at g) =
      let P : Rule → Type 0 = λ z. RuleGives rules r z (length before) seen nodes in
      h nodes (subst P (same_rule rules n at is) g)

  rule-given :
      {s e : ℕ} {n : List ℕ} {rule : Rule} {at : ℕ} {seen : Seen ℕ} {nodes : List Placed} → rule_of rules n ≡ Some rule
      → Gives rules r (expr s e (name n)) at seen nodes → RuleGives rules r rule at seen nodes
  rule-given {n = n} {rule = rule} is (gives_spare_bit p q) = absurd (no_rule rules n rule (ap is_built_in p) is)
  rule-given {n = n} {rule = rule} is (gives_spare_low p q) = absurd (no_rule rules n rule (ap is_built_in p) is)
  rule-given {n = n} {rule = rule} is (gives_padding p q) = absurd (no_rule rules n rule (ap is_built_in p) is)
  rule-given {n = n} {at = at} {seen = seen} {nodes = nodes} is (gives_name other found g) =
      let P : Rule → Type 0 = λ z. RuleGives rules r z at seen nodes in subst P (same_rule rules n found is) g

  pub few-name :
      {s e : ℕ} {n : List ℕ} {rule : Rule} {at : ℕ} {seen : Seen ℕ} → rule_of rules n ≡ Some rule
      → GivesFew rules r (expr s e (name n)) at seen → RuleGivesFew rules r rule at seen
  few-name is h = (h.0, rule-given is h.1, h.2)

  pub adds-spare :
      {s e : ℕ} {n : List ℕ} {seen : Seen ℕ} (before after : List Placed) (node : Node) → rule_of rules n ≡ None
      → (n ≡ codes "spare bit" → node ≡ Spare symbol.Zero) → (n ≡ codes "spare L" → node ≡ Spare symbol.Low)
      → (n ≡ codes "spare padding" → node ≡ Pad) → after ≡ before ++ placed node s ∷ []
      → Adds rules r (expr s e (name n)) seen before after
  adds-spare {s = s} before after node none as_bit as_low as_pad is nodes (gives_spare_bit p q) =
      as-nodes before after nodes _ is (q ∙ ap (λ z. placed z s ∷ []) (sym (as_bit p)))
  adds-spare {s = s} before after node none as_bit as_low as_pad is nodes (gives_spare_low p q) =
      as-nodes before after nodes _ is (q ∙ ap (λ z. placed z s ∷ []) (sym (as_low p)))
  adds-spare {s = s} before after node none as_bit as_low as_pad is nodes (gives_padding p q) =
      as-nodes before after nodes _ is (q ∙ ap (λ z. placed z s ∷ []) (sym (as_pad p)))
  adds-spare before after node none as_bit as_low as_pad is nodes (gives_name rule at g) = absurd (no_none at none)

  -- a name that gives nodes, and no rule has, is that of a spare part
  pub spare-named :
      {s e : ℕ} {n : List ℕ} {at : ℕ} {seen : Seen ℕ} {nodes : List Placed} → rule_of rules n ≡ None
      → Gives rules r (expr s e (name n)) at seen nodes → (is_built_in n ≡ true) × ¬ (n ≡ name_of NoString)
  spare-named none (gives_spare_bit p q) = (ap is_built_in p, λ other. cc)
  spare-named none (gives_spare_low p q) = (ap is_built_in p, λ other. cc)
  spare-named none (gives_padding p q) = (ap is_built_in p, λ other. cc)
  spare-named none (gives_name rule at g) = absurd (no_none at none)

  -- ---- a node and one part

  part-at : (before middle : List Placed) (p : Placed) → middle ≡ before ++ p ∷ [] → suc (length before) ≡ length middle
  part-at before middle p is = sym (one-more before middle p is)

  few-inside :
      (before middle inner nodes : List Placed) (p q : Placed) → middle ≡ before ++ p ∷ [] → nodes ≡ q ∷ inner
      → length before + length nodes ≤ 16384 → length middle + length inner ≤ 16384
  few-inside before middle inner nodes p q is are few =
      let long = one-more before middle p is in omega (arith, long, few, ap length are)

  pub adds-labelled :
      {s e : ℕ} {label : List ℕ} {x : ExprV} {seen : Seen ℕ} (before middle after : List Placed) (inner : ℕ)
      → inner ≡ length before + 1 → middle ≡ before ++ placed (Named label inner) s ∷ []
      → Adds rules r x seen middle after → Adds rules r (expr s e (labelled label x)) seen before after
  adds-labelled {s = s} {label = label} before middle after number at is h nodes (gives_labelled {inner = inner} g p) =
      let same : suc (length before) ≡ number = omega (arith, at) in
      as-nodes before after nodes _ (behind-one before middle after inner _ is (h inner (gives-at (part-at before middle _ is) g)))
      (p ∙ ap (λ z. placed (Named label z) s ∷ inner) same)

  pub few-labelled :
      {s e : ℕ} {label : List ℕ} {x : ExprV} {seen : Seen ℕ} (before middle : List Placed) (p : Placed)
      → middle ≡ before ++ p ∷ [] → GivesFew rules r (expr s e (labelled label x)) (length before) seen → GivesFew rules r x (length middle) seen
  few-labelled {s} {e} {label} {x} {seen} before middle p is h = by h.1
    where
      by : Gives rules r (expr s e (labelled label x)) (length before) seen h.0 → GivesFew rules r x (length middle) seen
      by (gives_labelled {inner = inner} g q) = (inner, gives-at (part-at before middle p is) g, few-inside before middle inner h.0 p _ is q h.2)

  -- ---- a part with an exponent

  pub adds-rest :
      {s e : ℕ} {x : ExprV} {seen : Seen ℕ} (before after : List Placed) → is_bit x ≡ true
      → after ≡ before ++ placed Rest s ∷ [] → Adds rules r (expr s e (power x Any)) seen before after
  adds-rest before after one is nodes (gives_field unit count u c p) = absurd (cc)
  adds-rest before after one is nodes (gives_rest one' p) = as-nodes before after nodes _ is p
  adds-rest before after one is nodes (gives_times count none c g p) = absurd (cc)
  adds-rest before after one is nodes (gives_many not g p) = absurd (no_both one not)

  pub adds-many :
      {s e : ℕ} {x : ExprV} {seen : Seen ℕ} (before middle after : List Placed) (inner : ℕ) → is_bit x ≡ false
      → inner ≡ length before + 1 → middle ≡ before ++ placed (Many inner) s ∷ []
      → Adds rules r x seen middle after → Adds rules r (expr s e (power x Any)) seen before after
  adds-many before middle after number not at is h nodes (gives_field unit count u c p) = absurd (cc)
  adds-many before middle after number not at is h nodes (gives_rest one p) = absurd (no_both one not)
  adds-many before middle after number not at is h nodes (gives_times count none c g p) = absurd (cc)
  adds-many {s = s} before middle after number not at is h nodes (gives_many {inner = inner} not' g p) =
      let same : suc (length before) ≡ number = omega (arith, at) in
      as-nodes before after nodes _ (behind-one before middle after inner _ is (h inner (gives-at (part-at before middle _ is) g)))
      (p ∙ ap (λ z. placed (Many z) s ∷ inner) same)

  pub few-many :
      {s e : ℕ} {x : ExprV} {seen : Seen ℕ} (before middle : List Placed) (p : Placed) → is_bit x ≡ false
      → middle ≡ before ++ p ∷ [] → GivesFew rules r (expr s e (power x Any)) (length before) seen → GivesFew rules r x (length middle) seen
  few-many {s} {e} {x} {seen} before middle p not is h = by h.1
    where
      by : Gives rules r (expr s e (power x Any)) (length before) seen h.0 → GivesFew rules r x (length middle) seen
      by (gives_field unit count u c q) = absurd (cc)
      by (gives_rest one q) = absurd (no_both one not)
      by (gives_times count none c g q) = absurd (cc)
      by (gives_many {inner = inner} not' g q) = (inner, gives-at (part-at before middle p is) g, few-inside before middle inner h.0 p _ is q h.2)

  pub adds-field :
      {s e : ℕ} {x : ExprV} {k : Exponent} {seen : Seen ℕ} (before after : List Placed) (unit : ℕ) (count : Count)
      → unit_of x ≡ Some unit → count_at seen k ≡ Some count
      → after ≡ before ++ placed (Field unit count) s ∷ [] → Adds rules r (expr s e (power x k)) seen before after
  adds-field {s = s} {k = k} {seen = seen} before after unit count is at now nodes (gives_field unit' count' u c p) =
      let unit_same : unit' ≡ unit = same_some u is in
      let count_same : count' ≡ count = same_some c at in
      as-nodes before after nodes _ now (p ∙ (ap (λ z. placed (Field z count') s ∷ []) unit_same ∙ ap (λ z. placed (Field unit z) s ∷ []) count_same))
  adds-field before after unit count is at now nodes (gives_rest one p) = absurd (cc)
  adds-field before after unit count is at now nodes (gives_times count' none c g p) = absurd (no_none is none)
  adds-field before after unit count is at now nodes (gives_many not g p) = absurd (cc)

  pub adds-times :
      {s e : ℕ} {x : ExprV} {k : Exponent} {seen : Seen ℕ} (before middle after : List Placed) (inner : ℕ) (count : Count)
      → unit_of x ≡ None → count_at seen k ≡ Some count → inner ≡ length before + 1
      → middle ≡ before ++ placed (Times count inner) s ∷ []
      → Adds rules r x seen middle after → Adds rules r (expr s e (power x k)) seen before after
  adds-times before middle after number count no_unit at here is h nodes (gives_field unit' count' u c p) = absurd (no_none u no_unit)
  adds-times before middle after number count no_unit at here is h nodes (gives_rest one p) = absurd (cc)
  adds-times {s = s} before middle after number count no_unit at here is h nodes (gives_times {inner = inner} count' none c g p) =
      let same : suc (length before) ≡ number = omega (arith, here) in
      let count_same : count' ≡ count = same_some c at in
      as-nodes before after nodes _ (behind-one before middle after inner _ is (h inner (gives-at (part-at before middle _ is) g)))
      (p ∙ (ap (λ z. placed (Times count' z) s ∷ inner) same ∙ ap (λ z. placed (Times z number) s ∷ inner) count_same))
  adds-times before middle after number count no_unit at here is h nodes (gives_many not g p) = absurd (cc)

  times-inner :
      {s e : ℕ} {x : ExprV} {k : Exponent} {at : ℕ} {seen : Seen ℕ} {nodes : List Placed} {count : Count} → unit_of x ≡ None
      → count_at seen k ≡ Some count → Gives rules r (expr s e (power x k)) at seen nodes
      → (inner : List Placed) × (p : Placed) × Gives rules r x (suc at) seen inner × (nodes ≡ p ∷ inner)
  times-inner no_unit at (gives_field unit count u c q) = absurd (no_none u no_unit)
  times-inner no_unit at (gives_rest one q) = absurd (cc)
  times-inner no_unit at (gives_times {inner = inner} count none c g q) = (inner, _, g, q)
  times-inner no_unit at (gives_many not g q) = absurd (cc)

  pub few-times :
      {s e : ℕ} {x : ExprV} {k : Exponent} {seen : Seen ℕ} {count : Count} (before middle : List Placed) (p : Placed) → unit_of x ≡ None
      → count_at seen k ≡ Some count
      → middle ≡ before ++ p ∷ [] → GivesFew rules r (expr s e (power x k)) (length before) seen → GivesFew rules r x (length middle) seen
  few-times before middle p no_unit at is h =
      let there = times-inner no_unit at h.1 in
      (there.0, gives-at (part-at before middle p is) there.2, few-inside before middle there.0 h.0 p there.1 is there.3 h.2)

  pub counted-given :
      {s e : ℕ} {x : ExprV} {k : Exponent} {at : ℕ} {seen : Seen ℕ} {nodes : List Placed} → (k ≡ Any → ⊥)
      → Gives rules r (expr s e (power x k)) at seen nodes → (count : Count) × (count_at seen k ≡ Some count)
  counted-given number (gives_field unit count u c p) = (count, c)
  counted-given number (gives_rest one p) = absurd (number refl)
  counted-given number (gives_times count none c g p) = (count, c)
  counted-given number (gives_many not g p) = absurd (number refl)

  -- ---- windows

  pub adds-window :
      {s e : ℕ} {x y : ExprV} {seen : Seen ℕ} (before middle after : List Placed) (w : WindowV) (inner : ℕ) (count : Count)
      → window_of x y ≡ Some w → count_at seen w.width.count ≡ Some count → inner ≡ length before + 1
      → middle ≡ before ++ placed (Window w.width.unit count inner) s ∷ []
      → Adds rules r w.part seen middle after → Adds rules r (expr s e (both x y)) seen before after
  adds-window {s = s} {x = x} {y = y} {seen = seen} before middle after w number count is at here now h nodes
      (gives_window {inner = inner} v count' is' c g p) =
      let same : v ≡ w = same_window x y is' is in
      let Part : WindowV → Type 0 = λ z. Gives rules r z.part (suc (length before)) seen inner in
      let part : Gives rules r w.part (suc (length before)) seen inner = subst Part same g in
      let Counts : WindowV → Type 0 = λ z. count_at seen z.width.count ≡ Some count' in
      let count_same : count' ≡ count = same_some (subst Counts same c) at in
      let number_same : suc (length before) ≡ number = omega (arith, here) in
      as-nodes before after nodes _ (behind-one before middle after inner _ now (h inner (gives-at (part-at before middle _ now) part)))
      (p ∙ (ap (λ (z : WindowV). placed (Window z.width.unit count' (suc (length before))) s ∷ inner) same
      ∙ (ap (λ z. placed (Window w.width.unit z (suc (length before))) s ∷ inner) count_same
      ∙ ap (λ z. placed (Window w.width.unit count z) s ∷ inner) number_same)))

  pub few-window :
      {s e : ℕ} {x y : ExprV} {seen : Seen ℕ} (before middle : List Placed) (w : WindowV) (p : Placed) → window_of x y ≡ Some w
      → middle ≡ before ++ p ∷ [] → GivesFew rules r (expr s e (both x y)) (length before) seen → GivesFew rules r w.part (length middle) seen
  few-window {s} {e} {x} {y} {seen} before middle w p at is h = by h.1
    where
      by : Gives rules r (expr s e (both x y)) (length before) seen h.0 → GivesFew rules r w.part (length middle) seen
      by (gives_window {inner = inner} v count is' c g q) =
          let Part : WindowV → Type 0 = λ z. Gives rules r z.part (length middle) seen inner in
          (inner, subst Part (same_window x y is' at) (gives-at (part-at before middle p is) g), few-inside before middle inner h.0 p _ is q h.2)

  pub window-count :
      {s e : ℕ} {x y : ExprV} {at : ℕ} {seen : Seen ℕ} {nodes : List Placed} (w : WindowV) → window_of x y ≡ Some w
      → Gives rules r (expr s e (both x y)) at seen nodes → (count : Count) × (count_at seen w.width.count ≡ Some count)
  window-count {x = x} {y = y} {seen = seen} w is (gives_window v count is' c g p) =
      let Counts : WindowV → Type 0 = λ z. count_at seen z.width.count ≡ Some count in (count, subst Counts (same_window x y is' is) c)

  pub some-window :
      {s e : ℕ} {x y : ExprV} {at : ℕ} {seen : Seen ℕ} {nodes : List Placed}
      → Gives rules r (expr s e (both x y)) at seen nodes → window_of x y ≡ None → ⊥
  some-window (gives_window v count is c g p) none = no_none is none

  -- ---- a node, its parts, and the node again with their numbers

  -- what is left where a node's parts were put in
  filled :
      (before middle inside after inner : List Placed) (p : Placed) (number : ℕ) (n : Node) → middle ≡ before ++ p ∷ []
      → inside ≡ middle ++ inner
      → ((front back : List Placed) (other : Placed) → inside ≡ front ++ other ∷ back → number ≡ length front → after ≡ front ++ placed n other.place ∷ back)
      → number ≡ length before → after ≡ before ++ placed n p.place ∷ inner
  filled before middle inside after inner p number n is more put at =
      put before inner p (behind-one before middle inside inner p is more) at

  -- a node with these items inside it
  abbrev ItemsInside : (List ℕ → Node) → ExprsV → ℕ → ℕ → Seen ℕ → List Placed → Type 0
  ItemsInside make xs s at seen nodes =
      (parts : List ℕ) × (inner : List Placed) × ItemsGive rules r xs (suc at) [] seen parts inner × (nodes ≡ placed (make parts) s ∷ inner)

  -- what gives a node with items inside it
  abbrev GivesItems : (List ℕ → Node) → FormV → ℕ → ℕ → ExprsV → Type 0
  GivesItems make f s e xs =
      (at : ℕ) (seen : Seen ℕ) (nodes : List Placed) → Gives rules r (expr s e f) at seen nodes → ItemsInside make xs s at seen nodes

  pub seq-gives : {s e : ℕ} (xs : ExprsV) → GivesItems Seq (seq xs) s e xs
  seq-gives xs at seen nodes (gives_seq h p) = (_, _, h, p)

  pub cut-gives : {s e : ℕ} (xs : ExprsV) → GivesItems Trunc (cut xs) s e xs
  cut-gives xs at seen nodes (gives_cut h p) = (_, _, h, p)

  pub adds-row :
      {f : FormV} {s e : ℕ} (make : List ℕ → Node) (xs : List ExprV) → GivesItems make f s e (exprs_of xs)
      → {seen : Seen ℕ} (before middle inside after : List Placed) {parts : List ℕ} (head : Node) (number : ℕ)
      → middle ≡ before ++ placed head s ∷ [] → AddsItems rules r xs seen [] parts middle inside
      → ((front back : List Placed) (other : Placed) → inside ≡ front ++ other ∷ back → number ≡ length front
      → after ≡ front ++ placed (make parts) other.place ∷ back)
      → number ≡ length before → Adds rules r (expr s e f) seen before after
  adds-row {s = s} make xs gives {seen = seen} before middle inside after {parts = parts} head number is h put at nodes g =
      let there = gives (length before) seen nodes g in
      let added = h there.0 there.1 (items-at (part-at before middle _ is) there.2) in
      as-nodes before after nodes _ (filled before middle inside after there.1 (placed head s) number (make parts) is added.1 put at)
      (there.3 ∙ ap (λ z. placed (make z) s ∷ there.1) (sym added.0))

  pub few-row :
      {f : FormV} {s e : ℕ} (make : List ℕ → Node) (xs : List ExprV) → GivesItems make f s e (exprs_of xs)
      → {seen : Seen ℕ} (before middle : List Placed) (p : Placed)
      → middle ≡ before ++ p ∷ [] → GivesFew rules r (expr s e f) (length before) seen → ItemsGiveFew rules r xs (length middle) seen
  few-row make xs gives {seen = seen} before middle p is h =
      let there = gives (length before) seen h.0 h.1 in
      (there.0, (there.1, items-at (part-at before middle p is) there.2, few-inside before middle there.1 h.0 p _ is there.3 h.2))

  -- ---- choices

  abbrev pub Only : List BranchV → Option ExprV → Type 0
  Only bs answer = (xs : List ExprV) → Kept rules r (branches_of bs) xs → answer ≡ only xs

  not-only : (xs : List ExprV) {x : ExprV} → 2 ≤ length xs → Some x ≡ only xs → ⊥
  not-only [] two p = omega (arith, two)
  not-only (y ∷ []) two p = omega (arith, two)
  not-only (y ∷ z ∷ xs) two p = cc

  one-only : {x y : ExprV} → Some x ≡ only (y ∷ []) → y ≡ x
  one-only p = cc

  none-only : {y : ExprV} → None ≡ only (y ∷ []) → ⊥
  none-only p = cc

  pub adds-only :
      {s e : ℕ} (bs : List BranchV) {x : ExprV} {seen : Seen ℕ} (before after : List Placed) → Only bs (Some x)
      → Adds rules r x seen before after → Adds rules r (expr s e (choice (branches_of bs))) seen before after
  adds-only bs before after the h nodes (gives_choice xs kept two g p) = absurd (not-only xs two (the xs kept))
  adds-only bs {seen = seen} before after the h nodes (gives_only {x = y} kept g) =
      let P : ExprV → Type 0 = λ z. Gives rules r z (length before) seen nodes in h nodes (subst P (one-only (the (y ∷ []) kept)) g)

  pub few-only :
      {s e : ℕ} (bs : List BranchV) {x : ExprV} {at : ℕ} {seen : Seen ℕ} → Only bs (Some x)
      → GivesFew rules r (expr s e (choice (branches_of bs))) at seen → GivesFew rules r x at seen × Kept rules r (branches_of bs) (x ∷ [])
  few-only {s} {e} bs {x} {at} {seen} the h = by h.1
    where
      by : Gives rules r (expr s e (choice (branches_of bs))) at seen h.0 → GivesFew rules r x at seen × Kept rules r (branches_of bs) (x ∷ [])
      by (gives_choice xs kept two g p) = absurd (not-only xs two (the xs kept))
      by (gives_only {x = y} kept g) =
          let same : y ≡ x = one-only (the (y ∷ []) kept) in
          let P : ExprV → Type 0 = λ z. Gives rules r z at seen h.0 in
          let Q : ExprV → Type 0 = λ z. Kept rules r (branches_of bs) (z ∷ []) in
          ((h.0, subst P same g, h.2), subst Q same kept)

  pub adds-choice :
      {s e : ℕ} (bs : List BranchV) {seen : Seen ℕ} (before middle inside after : List Placed) {parts : List ℕ} (head : Node) (number : ℕ)
      → Only bs None → middle ≡ before ++ placed head s ∷ [] → AddsKept rules r bs seen [] parts middle inside
      → ((front back : List Placed) (other : Placed) → inside ≡ front ++ other ∷ back → number ≡ length front
      → after ≡ front ++ placed (Choice parts) other.place ∷ back)
      → number ≡ length before → Adds rules r (expr s e (choice (branches_of bs))) seen before after
  adds-choice {s = s} bs {seen = seen} before middle inside after {parts = parts} head number the is h put at nodes
      (gives_choice {inner = inner} {parts = given} xs kept two g p) =
      let added = h xs kept given inner (each-at (part-at before middle _ is) g) in
      as-nodes before after nodes _ (filled before middle inside after inner (placed head s) number (Choice parts) is added.1 put at)
      (p ∙ ap (λ z. placed (Choice z) s ∷ inner) (sym added.0))
  adds-choice bs before middle inside after head number the is h put at nodes (gives_only {x = y} kept g) = absurd (none-only (the (y ∷ []) kept))

  pub few-choice :
      {s e : ℕ} (bs : List BranchV) {seen : Seen ℕ} (before middle : List Placed) (p : Placed) → Only bs None
      → middle ≡ before ++ p ∷ [] → GivesFew rules r (expr s e (choice (branches_of bs))) (length before) seen → KeptGiveFew rules r bs (length middle) seen
  few-choice {s} {e} bs {seen} before middle p the is h = by h.1
    where
      by : Gives rules r (expr s e (choice (branches_of bs))) (length before) seen h.0 → KeptGiveFew rules r bs (length middle) seen
      by (gives_choice {inner = inner} {parts = parts} xs kept two g q) =
          (xs, kept, parts, (inner, each-at (part-at before middle p is) g, few-inside before middle inner h.0 p _ is q h.2))
      by (gives_only {x = y} kept g) = absurd (none-only (the (y ∷ []) kept))

  -- ---- rules

  pub adds-plain :
      {rule : Rule} {seen : Seen ℕ} (before after : List Placed) → tail_of rule ≡ None
      → Adds rules r rule.body seen before after → AddsRule rules r rule seen before after
  adds-plain before after none h nodes (rule_plain none' g) = h nodes g
  adds-plain before after none h nodes (rule_tail tail many stop parts turn_parts items turn is i m t s p) = absurd (no_none is none)

  pub few-plain : {rule : Rule} {at : ℕ} {seen : Seen ℕ} → tail_of rule ≡ None → RuleGivesFew rules r rule at seen → GivesFew rules r rule.body at seen
  few-plain {rule} {at} {seen} none h = by h.1
    where
      by : RuleGives rules r rule at seen h.0 → GivesFew rules r rule.body at seen
      by (rule_plain none' g) = (h.0, g, h.2)
      by (rule_tail tail many stop parts turn_parts items turn is i m t s p) = absurd (no_none is none)
